-- What the loops of the builder have left to do. For private contracts alone.
use Rattle.std.specs.Prelude.{ℕ, List, [], ◌∷◌}
use Rattle.ae_base.specs.Mask.{Set}
use Rattle.ae_net.specs.declared.net.Gate.{Gate}
use Rattle.expansion.specs.Terms.{Terms}
use Rattle.cascade.specs.Reddy.{links}

-- the EXOR gates of terms, none where there is no term
abbrev pub links_of : ℕ → Terms → List ℕ → ℕ → ℕ → ℕ → List Set → List Gate
links_of k e out x i y [] = []
links_of k e out x i y (t ∷ ts) = links k e out x i y t ts
