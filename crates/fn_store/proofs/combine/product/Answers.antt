use Rattle.std.proofs.lemmas.Result.{IfOk-weaker}
use Rattle.fn_store.proofs.Rows.{IsExpansion-turned}
use Rattle.fn_store.proofs.combine.product.Goals as goal

pub returns-else-a-b : goal.returns-else-a-b
returns-else-a-b c = IfOk-weaker c.sum_of_rows-else-a-b.result _ _ (λ ts turned p f g a b. IsExpansion-turned p f g ts.items (turned p g f b a)) c.sum_of_rows-else-a-b.ensures
