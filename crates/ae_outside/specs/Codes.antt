-- Codes of the records that models have as values, each from that of the tuple of its fields.
use Rattle.std.specs.Prelude.{ℕ, List, refl}
use Rattle.std.specs.Coded.{Coded, code_by, coded×, coded_ℕ, coded_list}
use Rattle.std.specs.FinMap.{code}
use Rattle.ae_outside.specs.Counts.{Tally, Faults}
use Rattle.ae_outside.specs.Files.{Shelf}
use Rattle.ae_outside.specs.Memory.{Plan, MemoryFiles, MemorySink}

abbrev pub coded_tally : Coded Tally
coded_tally = code (coded_list coded_ℕ) coded_ℕ

abbrev pub coded_shelf : Coded Shelf
coded_shelf = code (coded_list coded_ℕ) (coded_list coded_ℕ)

abbrev pub coded_faults : Coded Faults
coded_faults = code_by (Tally × Tally) (coded× coded_tally coded_tally) (λ f. (f.reads, f.writes)) (λ p. record { reads = p.0; writes = p.1 }) (λ _. refl)

abbrev pub coded_plan : Coded Plan
coded_plan = code_by (ℕ × List ℕ) (coded× coded_ℕ (coded_list coded_ℕ)) (λ p. (p.made, p.failing)) (λ p. record { made = p.0; failing = p.1 }) (λ _. refl)

abbrev pub coded_files : Coded MemoryFiles
coded_files =
    code_by (Shelf × ((Tally × Tally) × (Plan × (Plan × (Plan × ℕ)))))
    (coded× coded_shelf (coded× (coded× coded_tally coded_tally) (coded× coded_plan (coded× coded_plan (coded× coded_plan coded_ℕ)))))
    (λ s. (s.held, ((s.read_faults, s.write_faults), (s.reads, (s.creates, (s.appends, s.limit))))))
    (λ p. record { held = p.0; read_faults = p.1.0.0; write_faults = p.1.0.1; reads = p.1.1.0; creates = p.1.1.1.0; appends = p.1.1.1.1.0; limit = p.1.1.1.1.1 })
    (λ _. refl)

abbrev pub coded_sink : Coded MemorySink
coded_sink =
    code_by (List ℕ × (ℕ × (Plan × ℕ))) (coded× (coded_list coded_ℕ) (coded× coded_ℕ (coded× coded_plan coded_ℕ)))
    (λ s. (s.taken, (s.faults, (s.writes, s.limit))))
    (λ p. record { taken = p.0; faults = p.1.0; writes = p.1.1.0; limit = p.1.1.1 })
    (λ _. refl)
