-- Words of private contracts alone: how far the asking of advisors has come.
use Rattle.std.specs.Prelude.{◌≡◌, ℕ, suc, ◌≤◌, nat_le, nat_lt, if◌then◌else◌, List, ◌++◌, All, take, drop}
use Rattle.std.specs.List.{AllZip}
use Rattle.ae_base.specs.Cube.{Signs}
use Rattle.ae_base.specs.Source.{Source}
use Rattle.expansion.specs.Kept.{KeepsFunctions}
use Rattle.expansion.specs.Terms.{Terms, cost}
use Rattle.polarity.specs.Cost.{cost_of}
use Rattle.polarity.specs.Search.{Advised, IsTold, IsAsked, IsFirstCheapest, candidates, new_entries}
use Rattle.polarity.specs.declared.entry.Entry.{Entry}

-- an expansion of the same functions within the limit
pub record IsCandidate (base : Terms) (limit : ℕ) (e : Terms) : Type 0 where
  pub functions : KeepsFunctions base e
  pub inputs : e.polarity.n ≡ base.polarity.n
  pub within : cost e ≤ limit

-- the better one of the best before and a proposal: the proposal where it is within the limit and costs less
abbrev pub cheaper_at : Source → ℕ → Signs → Signs → Signs
cheaper_at s limit best p = if nat_le (cost_of s p) limit then (if nat_lt (cost_of s p) (cost_of s best) then p else best) else best

-- One advisor was asked for some time, and the best one before became the best one now.
pub record IsBeingAsked (s : Source) (limit : ℕ) (start : Signs) (before after : List Entry) (best : Signs) : Type 0 where
  pub new : List Entry
  pub log : after ≡ before ++ new
  pub told : All (IsTold s limit) new
  pub first : (ps : List Signs) → IsFirstCheapest s ps start → IsFirstCheapest s (ps ++ candidates new) best

-- Some advisors were asked until nothing was left, and the best one before became the best one now.
pub record AreAsked (s : Source) (limit : ℕ) (start : Signs) (before after : List Advised) (best : Signs) : Type 0 where
  pub asked : AllZip (IsAsked s limit) before after
  pub first : (ps : List Signs) → IsFirstCheapest s ps start → IsFirstCheapest s (ps ++ candidates (new_entries before after)) best

-- The advisors were asked in order: of the first so many nothing is left, and each new entry was told its cost. The next one may have been
-- asked for some time, and those after it are as before.
pub record AreAskedInOrder (s : Source) (limit : ℕ) (before after : List Advised) : Type 0 where
  pub whole : ℕ
  pub asked : AllZip (IsAsked s limit) (take whole before) (take whole after)
  pub untouched : drop (suc whole) after ≡ drop (suc whole) before
