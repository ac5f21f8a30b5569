-- The numbers that a linear congruential generator draws.
use Rattle.std.specs.Prelude.{ℕ, zero, suc, ◌+◌, ◌*◌, ◌/◌, ◌%◌, ◌^◌}

-- the state after a draw
abbrev pub stepped : ℕ → ℕ
stepped x = (1103515245 * x + 12345) % 2 ^ 31

-- the state after k draws
abbrev pub after_draws : ℕ → ℕ → ℕ
after_draws zero x = x
after_draws (suc k) x = stepped (after_draws k x)

-- what a draw gives, a number below 4, where x is the state after it
abbrev pub drawn : ℕ → ℕ
drawn x = x / 65536 % 4
