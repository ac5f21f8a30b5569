-- What a report took, piece after piece.
use Rattle.std.proofs.Common.{◌≡◌, ◌++◌, List, ℕ, take, Option, ◌∙◌, ap}
use Rattle.ae_outside.specs.Files.{added, TookFront}
use Rattle.synth_cmd.specs.Lines.{memory_line}
use Rattle.synth_cmd.specs.Outcome.{TellsMemory}

module _ (text : List ℕ) (old : Option (List ℕ)) where
  -- nothing of the text
  pub tells_none : (new : Option (List ℕ)) → TookFront memory_line old new → TellsMemory text old new
  tells_none new last = record { first = 0; last = last.0; took = last.1 }

  pub tells_both : ((taken : Option (List ℕ)) (xs ys : List ℕ) → added (added taken xs) ys ≡ added taken (xs ++ ys))
      → (mid new : Option (List ℕ)) → TookFront text old mid → TookFront memory_line mid new → TellsMemory text old new
  tells_both joined mid new first last = record {
    first = first.0;
    last = last.0;
    took = last.1 ∙ ap (λ t. added t (take last.0 memory_line)) first.1 ∙ joined old _ _;
  }
