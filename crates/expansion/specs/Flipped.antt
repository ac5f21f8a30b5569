-- Polarities that differ in one input.
use Rattle.std.specs.Prelude.{ℕ}
use Rattle.ae_base.specs.Cube.{Signs}
use Rattle.ae_base.specs.Points.{flipped}

-- the polarity that differs in input j alone
abbrev pub flipped_polarity : Signs → ℕ → Signs
flipped_polarity p j = record p { plain = flipped j p.plain }
