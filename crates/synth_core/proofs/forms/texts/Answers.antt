use Rattle.std.proofs.Common.{◌≡◌, sym, subst}
use Rattle.std.specs.Prelude.{IfOk}
use Rattle.ae_base.specs.Source.{Source}
use Rattle.expansion.specs.Functions.{AreExpansions}
use Rattle.synth_core.specs.Made.{IsSynthesised, names_of, texts_of}
use Rattle.synth_core.proofs.forms.texts.Goals as goal

pub returns-in-Reddy : goal.returns-in-Reddy
returns-in-Reddy c =
    subst (λ form. IfOk c.reddy_texts.result (λ made. (s : Source) → c.args.names.now ≡ names_of s → AreExpansions s c.args.e.now.polarity c.args.e.now
    → IsSynthesised form c.args.e.now.polarity s c.args.e.now (texts_of made))) (sym c.in-Reddy.is) c.reddy_texts.ensures

pub returns-in-Factored : goal.returns-in-Factored
returns-in-Factored c =
    subst (λ form. IfOk c.factored_texts.result (λ made. (s : Source) → c.args.names.now ≡ names_of s → AreExpansions s c.args.e.now.polarity c.args.e.now
    → IsSynthesised form c.args.e.now.polarity s c.args.e.now (texts_of made))) (sym c.in-Factored.is) c.factored_texts.ensures
