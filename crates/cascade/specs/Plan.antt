-- What the builder works out before it makes the gates. For its private contracts alone.
use Rattle.std.specs.Prelude.{◌≡◌, ℕ, ◌+◌, ◌<◌, ◌≤◌, true, List, length, All}
use Rattle.ae_base.specs.declared.limits.TheConstants.{GATES, NET_LINES, SOURCE_NAME_BYTES}
use Rattle.ae_base.specs.Mask.{Set, inside, first}
use Rattle.expansion.specs.Terms.{Terms}
use Rattle.expansion.specs.Kept.{IsTerms}
use Rattle.ae_base.specs.declared.limits.TheConstants.{REDDY_TERMS}
use Rattle.cascade.specs.declared.signals.Plan.{Plan}
use Rattle.cascade.specs.declared.parts.Chain.{Chain}
use Rattle.cascade.specs.Reddy.{turned, wide_terms, and_place, start, rest}

-- the parts of the network that the plan names are those of the expansions, and few enough
pub record IsPlan (plan : Plan) : Type 0 where
  pub terms : IsTerms plan.expansion.now
  pub short : plan.lead ≤ SOURCE_NAME_BYTES + 1
  pub few_inputs : plan.expansion.now.polarity.n ≤ NET_LINES
  pub turned : plan.turned.items ≡ turned plan.expansion.now
  pub each_turned : All (λ j. j ≤ NET_LINES) plan.turned.items
  pub few_turned : length plan.turned.items ≤ NET_LINES
  pub wide : plan.wide.items ≡ wide_terms plan.expansion.now
  pub each_wide : All (λ t. inside t (first plan.expansion.now.polarity.n) ≡ true) plan.wide.items
  pub few_wide : length plan.wide.items ≤ REDDY_TERMS
  pub ands : plan.ands ≡ and_place plan.expansion.now
  pub low : plan.ands ≤ NET_LINES + 1

-- the terms are over the inputs of the expansions
abbrev pub AreOver : Terms → List Set → Type 0
AreOver e ts = All (λ t. inside t (first e.polarity.n) ≡ true) ts

-- the chain of the output of this name with these terms, before which so many inner EXOR gates stand
pub record IsChain (chain : Chain) (e : Terms) (name : List ℕ) (before : ℕ) (ts : List Set) : Type 0 where
  pub out : chain.out.now ≡ name
  pub inner : chain.inner ≡ before
  pub start : chain.start ≡ start e ts
  pub terms : chain.terms.items ≡ rest ts
  pub over : AreOver e chain.terms.items

-- a chain from this place on, with all its gates, is within the limit
pub record HasRoom (chain : Chain) (place : ℕ) : Type 0 where
  pub inner : chain.inner + length chain.terms.items ≤ GATES
  pub gates : place + length chain.terms.items < GATES
