-- The expansions of the functions of an expansion at another polarity.
use Rattle.std.proofs.Common.{◌≡◌, ℕ, List, Some, length, sym, ◌∙◌, ap, subst}
use Rattle.std.specs.Prelude.{slice_get}
use Rattle.ae_base.specs.Cube.{Signs}
use Rattle.ae_base.specs.Source.{Source, on_set}
use Rattle.expansion.specs.Functions.{AreExpansions}
use Rattle.expansion.specs.Kept.{KeepsFunctions}
use Rattle.expansion.specs.Stores.{expanded}
use Rattle.expansion.specs.Terms.{Terms}
use Rattle.fn_store.specs.declared.store.FnRef.{FnRef}
use Rattle.fn_store.specs.Functions.{Functions, Keeps, Shows}
use Rattle.net_fn.specs.Refs.{ShowEach}

-- references, one for each list, that show what the lists are expansions of, in a store at the polarity
pub record Remade (p : Signs) (base : Terms) (fs : Functions) (refs : List FnRef) : Type 0 where
  pub polarity : fs.polarity ≡ p
  pub inputs : p.n ≡ base.polarity.n
  pub count : length refs ≡ length base.outs
  pub shows : (s : Source) → AreExpansions s base.polarity base → ShowEach fs refs (on_set s)

pub remade : (p : Signs) (base : Terms) (before fs : Functions) (refs items : List FnRef) → Keeps before fs → before.polarity ≡ p → p.n ≡ base.polarity.n → refs ≡ items → length items ≡ length base.outs
    → ((s : Source) → AreExpansions s base.polarity base → ShowEach fs items (on_set s)) → Remade p base fs refs
remade p base before fs refs items keeps at inputs same count shows = record {
  polarity = keeps.polarity ∙ at;
  inputs = inputs;
  count = ap length same ∙ count;
  shows = λ s are. subst (λ (rs : List FnRef). ShowEach fs rs (on_set s)) (sym same) (shows s are);
}

abbrev pub Law : Type 0
Law = (source : Source) (s : Functions) (refs : List FnRef) → s.polarity.n ≡ length source.inputs → length refs ≡ length source.outputs
    → ((o : ℕ) (r : FnRef) → slice_get refs o ≡ Some r → Shows s r (on_set source o)) → AreExpansions source s.polarity (expanded s refs)

pub remade_at : (law : Law) (p : Signs) (base : Terms) (fs : Functions) (refs : List FnRef) → Remade p base fs refs → (s : Source) → AreExpansions s base.polarity base → AreExpansions s p (expanded fs refs)
remade_at law p base fs refs is s are =
    subst (λ (q : Signs). AreExpansions s q (expanded fs refs)) is.polarity
    (law s fs refs (ap (λ (q : Signs). q.n) is.polarity ∙ is.inputs ∙ are.inputs) (is.count ∙ are.outputs) (is.shows s are).each)

pub remade_keeps : (law : Law) (p : Signs) (base : Terms) (fs : Functions) (refs : List FnRef) (e : Terms) → Remade p base fs refs → e ≡ expanded fs refs → KeepsFunctions base e
remade_keeps law p base fs refs e is e_is s are =
    subst (λ (x : Terms). AreExpansions s x.polarity x) (sym e_is)
    (subst (λ (q : Signs). AreExpansions s q (expanded fs refs)) (sym is.polarity) (remade_at law p base fs refs is s are))
