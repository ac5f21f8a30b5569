use Rattle.std.proofs.Common.{Err, ap, ◌∙◌}
use Rattle.polarity.proofs.Asked.{told_within, told_over, passes_over, stays_best, cheaper_is}
use Rattle.polarity.specs.Asking.{cheaper_at}
use Rattle.polarity.specs.Search.{told_at}
use Rattle.polarity.specs.declared.entry.Told.TheVariants.{Cost}
use Rattle.polarity.proofs.asking.compare.Goals as goal

pub returns-in-Ok-clause-told : goal.returns-in-Ok-clause-told
returns-in-Ok-clause-told g c = λ s h.
    ap (λ n. Cost n) c.pairs.ensures ∙ told_within s (g.M.Maker.limit c.args.maker.now) c.cost_law.ensures c.in-Ok.expansion (c.in-Ok.ensures.functions s h) c.in-Ok.ensures.within
    ∙ ap (told_at s (g.M.Maker.limit c.args.maker.now)) c.in-Ok.ensures.polarity

pub returns-in-Ok-clause-cheaper : goal.returns-in-Ok-clause-cheaper
returns-in-Ok-clause-cheaper g c = λ s h.
    ap (λ e. e.polarity) c.cheaper.ensures ∙ cheaper_is c.cost_law.ensures s (g.M.Maker.limit c.args.maker.now) c.args.best c.in-Ok.expansion (c.requires.best.functions s h) (c.in-Ok.ensures.functions s h) c.in-Ok.ensures.within
    ∙ ap (cheaper_at s (g.M.Maker.limit c.args.maker.now) c.args.best.polarity) c.in-Ok.ensures.polarity

pub returns-in-Err-TooManyTerms-clause-told : goal.returns-in-Err-TooManyTerms-clause-told
returns-in-Err-TooManyTerms-clause-told g c = λ s h. told_over s _ _ (passes_over s _ c.cost_law.ensures _ _ (c.in-Err-TooManyTerms.ensures.too_many c.in-Err-TooManyTerms.field-0-0 (ap (λ e. Err e) c.in-Err-TooManyTerms.field-0-is) s h))

pub returns-in-Err-TooManyTerms-clause-cheaper : goal.returns-in-Err-TooManyTerms-clause-cheaper
returns-in-Err-TooManyTerms-clause-cheaper g c = λ s h. stays_best s _ _ _ (passes_over s _ c.cost_law.ensures _ _ (c.in-Err-TooManyTerms.ensures.too_many c.in-Err-TooManyTerms.field-0-0 (ap (λ e. Err e) c.in-Err-TooManyTerms.field-0-is) s h))
