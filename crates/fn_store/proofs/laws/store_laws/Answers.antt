use Rattle.std.proofs.Common.{refl}
use Rattle.fn_store.proofs.Shown.{Keeps-same, Keeps-through, Shows-kept, Shows-agree, same_meaning}
use Rattle.fn_store.proofs.laws.store_laws.Goals as goal

pub returns : goal.returns
returns c = record { itself = Keeps-same; through = Keeps-through; kept = Shows-kept; agree = Shows-agree; one = λ s r f g h k. same_meaning s.polarity f g _ _ h.is k.is refl }
