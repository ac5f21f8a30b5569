use Rattle.std.proofs.Common.{◌≡◌, ℕ, ◌-◌, List, [], ◌∷◌, ◌++◌, length, get_or, ap, refl, ◌∙◌, arith, rules, length-append}
use Rattle.std.proofs.Math.ListN.{set}
use Rattle.std.proofs.Math.Seq.{get_or-append_seam, set-append_seam}
use Rattle.ae_base.specs.Cube.{Signs}
use Rattle.polarity.specs.Advisors.{entry_of, told_of}
use Rattle.polarity.specs.declared.entry.Entry.{Entry}
use Rattle.polarity.specs.declared.entry.Told.{Told}
use Rattle.polarity.specs.declared.entry.Told.TheVariants.{Untold}
use Rattle.polarity.proofs.log.Log.tell.Goals as goal
use Rattle.polarity.proofs.log.Log.tell.Goals.{in-None, in-Some}

-- a write to the last entry tells its cost
set_last : (items front : List Entry) (p : Signs) (len : ℕ) (e : Entry) (t told : Told) → items ≡ front ++ entry_of p Untold ∷ [] → len ≡ length items → e ≡ get_or items (len - 1) e → t ≡ told
    → set items (len - 1) (entry_of e.polarity t) ≡ front ++ entry_of p told ∷ []
set_last items front p len e t told ends long is tells =
    let at : len - 1 ≡ length front = omega (arith, long, ap length ends, length-append front (entry_of p Untold ∷ [])) in
    let here : e ≡ entry_of p Untold = is ∙ rw (ends, at, get_or-append_seam front (entry_of p Untold) [] e) refl in
    rw (ends, at, here, tells, set-append_seam front (entry_of p Untold) [] (entry_of p told)) refl

pub returns : goal.returns
returns c = λ front p ends.
    set_last _ front p c.len-last.result c.index_mut.result.now _ (told_of c.args.cost) (c.self.view_is ∙ ends) (c.len-last.ensures ∙ search rules) c.index_mut.ensures.value
    (elim c.match-cost.branch [ in-None w ↦ search rules | in-Some w ↦ search rules ])
