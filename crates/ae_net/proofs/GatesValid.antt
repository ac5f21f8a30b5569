-- Gates of the kinds are gates.
use Rattle.std.proofs.Common.{◌≡◌, ℕ, ◌<◌, ◌≤◌, true, List, [], ◌∷◌, length, arith}
use Rattle.std.specs.Prelude.{All}
use Rattle.std.specs.List.{AllByRecursion}
use Rattle.std.proofs.lemmas.List.Elements.{All-from_recursion}
use Rattle.ae_base.specs.declared.limits.TheConstants.{PINS}
use Rattle.ae_base.specs.Name.{is_name}
use Rattle.ae_net.specs.Valid.{IsGate, IsRowOf}
use Rattle.ae_net.specs.declared.gates.Cell.{Cell}
use Rattle.ae_net.specs.declared.gates.Cell.TheVariants.{Zero, One, Inverter, Buffer, And, Exor, Or}
use Rattle.ae_net.specs.Gates.{pins_of, rows_of, gate_of, inverter, buffer, exor, and_gate}
use Rattle.ae_net.proofs.Rows.{IsRowOf-whole, IsRowOf-plain, IsRowOf-complemented, IsRowOf-one_of_each, IsRowOf-full}

each_row : (cell : Cell) → AllByRecursion (IsRowOf (length (pins_of cell))) (rows_of cell)
each_row Zero = tt
each_row One = (IsRowOf-whole 0, tt)
each_row (Inverter a) = (IsRowOf-complemented 0 1 (omega arith), tt)
each_row (Buffer a) = (IsRowOf-plain 0 1 (omega arith), tt)
each_row (And pins) = (IsRowOf-full (length pins), tt)
each_row (Exor a b) = (IsRowOf-one_of_each 0 1 2 (omega arith) (omega arith) (λ e. omega arith), (IsRowOf-one_of_each 1 0 2 (omega arith) (omega arith) (λ e. omega arith), tt))
each_row (Or a b) = (IsRowOf-plain 0 2 (omega arith), (IsRowOf-plain 1 2 (omega arith), tt))

pub IsGate-cell : (s : ℕ) (out : List ℕ) (cell : Cell) → is_name out ≡ true → All (λ pin. pin < s) (pins_of cell) → length (pins_of cell) ≤ PINS → IsGate s (gate_of out cell)
IsGate-cell s out cell named earlier few = record {
  earlier = earlier;
  named = named;
  few_pins = few;
  rows = All-from_recursion (IsRowOf (length (pins_of cell))) (rows_of cell) (each_row cell);
  off_row = λ e. cc;
}

pub IsGate-inverter : (s : ℕ) (out : List ℕ) (a : ℕ) → is_name out ≡ true → a < s → IsGate s (inverter out a)
IsGate-inverter s out a named h = IsGate-cell s out (Inverter a) named (All-from_recursion (λ pin. pin < s) (a ∷ []) (h, tt)) (omega arith)

pub IsGate-buffer : (s : ℕ) (out : List ℕ) (a : ℕ) → is_name out ≡ true → a < s → IsGate s (buffer out a)
IsGate-buffer s out a named h = IsGate-cell s out (Buffer a) named (All-from_recursion (λ pin. pin < s) (a ∷ []) (h, tt)) (omega arith)

pub IsGate-exor : (s : ℕ) (out : List ℕ) (a b : ℕ) → is_name out ≡ true → a < s → b < s → IsGate s (exor out a b)
IsGate-exor s out a b named h k = IsGate-cell s out (Exor a b) named (All-from_recursion (λ pin. pin < s) (a ∷ b ∷ []) (h, (k, tt))) (omega arith)

pub IsGate-and : (s : ℕ) (out pins : List ℕ) → is_name out ≡ true → All (λ pin. pin < s) pins → length pins ≤ PINS → IsGate s (and_gate out pins)
IsGate-and s out pins named h few = IsGate-cell s out (And pins) named h few
