-- Inputs by the number of the terms that hold them: the law of even inputs ties it to the flip. For private contracts alone.
use Rattle.std.specs.Prelude.{ℕ, ◌%◌, ◌==◌, Bool, count_by}
use Rattle.std.specs.List.{list_any}
use Rattle.ae_base.specs.Mask.{has}
use Rattle.expansion.specs.Terms.{Terms}

-- in some output's expansion the number of the terms that hold input j is odd
abbrev pub is_odd : Terms → ℕ → Bool
is_odd e j = list_any (λ ts. count_by (λ t. has t j) ts % 2 == 1) e.outs
