-- The search for a polarity: the advisors' proposals, the candidates among them, and the choice of one.
use Rattle.std.specs.Prelude.{◌≡◌, ℕ, ◌<◌, ◌≤◌, nat_le, Bool, true, false, not, if◌then◌else◌, List, [], ◌∷◌, ◌++◌, length, drop, map, filter, All}
use Rattle.ae_base.specs.Cube.{Signs}
use Rattle.ae_base.specs.Source.{Source}
use Rattle.polarity.specs.Cost.{cost_of, IsLocallyCheapest}
use Rattle.polarity.specs.Settling.{settling}
use Rattle.polarity.specs.declared.entry.Entry.{Entry}
use Rattle.polarity.specs.declared.entry.Told.{Told}
use Rattle.polarity.specs.declared.entry.Told.TheVariants.{Untold, Over, Cost}

-- an advisor as clauses see it: what is left, and the entries of its proposals
pub record Advised : Type 0 where
  pub left : ℕ
  pub log : List Entry

abbrev pub advised : ℕ → List Entry → Advised
advised left log = record { left = left; log = log }

-- ---- asking

-- Whatever comes, no more is left than before, and the log begins with the old one.
pub record Stands (before after : Advised) : Type 0 where
  pub left : after.left ≤ before.left
  pub new : List Entry
  pub log : after.log ≡ before.log ++ new

-- what is told of a polarity: its cost, or that this passes the limit
abbrev pub told_at : Source → ℕ → Signs → Told
told_at s limit p = if nat_le (cost_of s p) limit then Cost (cost_of s p) else Over

-- a polarity of the source's inputs, whose cost was told
pub record IsTold (s : Source) (limit : ℕ) (e : Entry) : Type 0 where
  pub inputs : e.polarity.n ≡ length s.inputs
  pub cost : e.cost ≡ told_at s limit e.polarity

-- Nothing is left, and each new entry of the log was told its cost.
pub record IsAsked (s : Source) (limit : ℕ) (before after : Advised) : Type 0 where
  pub left : after.left ≡ 0
  pub new : List Entry
  pub log : after.log ≡ before.log ++ new
  pub told : All (IsTold s limit) new

-- ---- choosing

-- the new entries of all advisors, advisor by advisor
abbrev pub new_entries : List Advised → List Advised → List Entry
new_entries [] after = []
new_entries (b ∷ before) [] = []
new_entries (b ∷ before) (a ∷ after) = drop (length b.log) a.log ++ new_entries before after

abbrev pub is_over : Told → Bool
is_over Untold = false
is_over Over = true
is_over (Cost c) = false

-- the polarities that are within the limit
abbrev pub candidates : List Entry → List Signs
candidates es = map (λ e. e.polarity) (filter (λ e. not (is_over e.cost)) es)

-- The polarity stands in the list, each one before it costs more, and none after it costs less.
pub record IsFirstCheapest (s : Source) (ps : List Signs) (p : Signs) : Type 0 where
  pub before : List Signs
  pub after : List Signs
  pub is : ps ≡ before ++ p ∷ after
  pub dearer : All (λ q. cost_of s p < cost_of s q) before
  pub no_cheaper : All (λ q. cost_of s p ≤ cost_of s q) after

-- The first cheapest one of the start and of the new entries within the limit is settled. So no polarity that differs in one input costs
-- less, nor does any candidate.
pub record IsChosen (s : Source) (start : Signs) (before after : List Advised) (p : Signs) : Type 0 where
  pub cheapest : Signs
  pub first : IsFirstCheapest s (start ∷ candidates (new_entries before after)) cheapest
  pub settling : p ≡ settling s cheapest
  pub settled : IsLocallyCheapest s p
  pub no_dearer : All (λ q. cost_of s p ≤ cost_of s q) (start ∷ candidates (new_entries before after))
