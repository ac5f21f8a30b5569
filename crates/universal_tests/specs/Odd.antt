-- The inputs whose literals the universal vectors test too.
use Rattle.std.specs.Prelude.{◌≡◌, ℕ, ◌<◌, true, List}
use Rattle.ae_base.specs.Mask.{Set}
use Rattle.ae_base.specs.Cube.{Signs}
use Rattle.ae_base.specs.Source.{Source, IsUsed}
use Rattle.ae_net.specs.declared.net.Fault.{Fault}
use Rattle.ae_net.specs.Faults.{IsPlace}
use Rattle.ae_net.specs.Network.{Network}
use Rattle.expansion.specs.Counts.{is_odd}
use Rattle.expansion.specs.Even.{IsEven}
use Rattle.expansion.specs.Terms.{Terms}
use Rattle.universal_tests.specs.Sites.{IsOfLiteral, IsDetected}

-- by counts: an input that some output's expansion holds an odd number of times
abbrev pub IsHeldOddly : Terms → ℕ → Type 0
IsHeldOddly e j = (j < e.polarity.n) × (is_odd e j ≡ true)

-- in words of the source: a used input that is not even
abbrev pub IsUsedNotEven : Source → Signs → ℕ → Type 0
IsUsedNotEven s p j = IsUsed s j × (IsEven s p j → ⊥)

-- each fault at a site of the literal of such an input is detected
abbrev pub DetectsLiterals : Network → (ℕ → Type 0) → List Set → Type 0
DetectsLiterals n tested xs = (fault : Fault) (j : ℕ) → tested j → IsPlace n fault.place → IsOfLiteral n j fault.place → IsDetected n xs fault
