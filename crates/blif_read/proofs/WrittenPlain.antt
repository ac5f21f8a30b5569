-- The lines of a network are lines of plain words.
use Rattle.std.proofs.Common.{◌≡◌, ℕ, zero, suc, ◌≤◌, Bool, true, false, List, [], ◌∷◌, ◌++◌, length, map, refl, arith}
use Rattle.std.specs.Prelude.{codes, All}
use Rattle.std.specs.List.{flat_map, AllByRecursion}
use Rattle.std.proofs.lemmas.List.Elements.{All-from_recursion}
use Rattle.ae_base.specs.Cube.{Product}
use Rattle.ae_base.specs.Name.{is_name}
use Rattle.ae_base.specs.Text.{digit, cube_text}
use Rattle.ae_base.specs.declared.limits.TheConstants.{PINS}
use Rattle.ae_base.proofs.Distinct.{each-append, each_weaker}
use Rattle.ae_base.proofs.PlainWords.{plain_name, plain_cube}
use Rattle.ae_base.specs.Plain.{is_plain}
use Rattle.ae_lex.specs.Written.{IsPlainLine}
use Rattle.ae_net.specs.declared.net.Gate.{Gate}
use Rattle.ae_net.specs.Network.{Network}
use Rattle.ae_net.specs.Blif.{signal_names, name_of, row_words, gate_lines, net_lines}

abbrev pub ArePlain : List (List ℕ) → Type 0
ArePlain ws = AllByRecursion (λ w. is_plain w ≡ true) ws

pub plain_names : (ws : List (List ℕ)) → AllByRecursion (λ w. is_name w ≡ true) ws → ArePlain ws
plain_names ws h = each_weaker (λ w. is_name w ≡ true) (λ w. is_plain w ≡ true) plain_name ws h

plain_line : (w : List ℕ) (ws : List (List ℕ)) → is_plain w ≡ true → ArePlain ws → IsPlainLine (w ∷ ws)
plain_line w ws h k = record { some = omega arith; each = All-from_recursion (λ v. is_plain v ≡ true) (w ∷ ws) (h, k) }

-- ---- rows

plain_digit : (on : Bool) → is_plain (digit on ∷ []) ≡ true
plain_digit true = refl
plain_digit false = refl

row_line : (k : ℕ) (on : Bool) (row : Product) → IsPlainLine (row_words k on row)
row_line zero on row = plain_line (digit on ∷ []) [] (plain_digit on) tt
row_line (suc k) on row = plain_line (cube_text (suc k) row) ((digit on ∷ []) ∷ []) (plain_cube (suc k) row (omega arith)) (plain_digit on, tt)

row_lines : (k : ℕ) (on : Bool) (rows : List Product) → AllByRecursion IsPlainLine (map (row_words k on) rows)
row_lines k on [] = tt
row_lines k on (row ∷ rows) = (row_line k on row, row_lines k on rows)

-- ---- all lines

-- the words of a gate are names, and it has not too many pins
pub record IsFit (names : List (List ℕ)) (gate : Gate) : Type 0 where
  pub pins : AllByRecursion (λ w. is_name w ≡ true) (map (name_of names) gate.pins)
  pub out : is_name gate.out ≡ true
  pub few : length gate.pins ≤ PINS

gates_plain : (names : List (List ℕ)) (gates : List Gate) → AllByRecursion (IsFit names) gates → AllByRecursion IsPlainLine (flat_map (gate_lines names) gates)
gates_plain names [] h = tt
gates_plain names (gate ∷ gates) h =
    each-append IsPlainLine (gate_lines names gate) (flat_map (gate_lines names) gates) (
      plain_line (codes ".names") (map (name_of names) gate.pins ++ gate.out ∷ []) refl (each-append (λ w. is_plain w ≡ true) (map (name_of names) gate.pins) (gate.out ∷ []) (plain_names (map (name_of names) gate.pins) h.0.pins) (plain_name gate.out h.0.out, tt)),
      row_lines (length gate.pins) gate.on gate.rows,
    )
    (gates_plain names gates h.1)

pub net_plain : (n : Network) → is_name n.model ≡ true → AllByRecursion (λ w. is_name w ≡ true) n.inputs → AllByRecursion (λ w. is_name w ≡ true) (map (name_of (signal_names n)) n.outputs) → AllByRecursion (IsFit (signal_names n)) n.gates
    → All IsPlainLine (net_lines n)
net_plain n model inputs outputs gates =
    All-from_recursion IsPlainLine (net_lines n) (
      plain_line (codes ".model") (n.model ∷ []) refl (plain_name n.model model, tt),
      (
        plain_line (codes ".inputs") n.inputs refl (plain_names n.inputs inputs),
        (
          plain_line (codes ".outputs") (map (name_of (signal_names n)) n.outputs) refl (plain_names (map (name_of (signal_names n)) n.outputs) outputs),
          each-append IsPlainLine (flat_map (gate_lines (signal_names n)) n.gates) ((codes ".end" ∷ []) ∷ []) (gates_plain (signal_names n) n.gates gates) (plain_line (codes ".end") [] refl tt, tt),
        ),
      ),
    )
