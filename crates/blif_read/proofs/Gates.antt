-- The gates of lines without a fault.
use Rattle.std.proofs.Common.{◌≡◌, ℕ, ◌-◌, ◌<◌, ◌≤◌, Bool, true, false, cond, eqb, ◌||◌, List, [], ◌∷◌, ◌++◌, length, get_or, map, take, drop, codes, Option, None, refl, sym, subst, arith}
use Rattle.std.specs.List.{AllByRecursion}
use Rattle.std.proofs.lemmas.List.{length-take, length-take-le}
use Rattle.ae_base.specs.declared.limits.TheConstants.{PINS}
use Rattle.ae_base.proofs.ReadBack.{cube_over}
use Rattle.ae_lex.specs.First.{first_fault}
use Rattle.ae_lex.specs.Heads.{Word, heads}
use Rattle.ae_lex.specs.Reads.{words_of}
use Rattle.ae_lex.specs.Words.{WordLine}
use Rattle.ae_net.specs.Named.{NamedGate}
use Rattle.ae_net.specs.Valid.{IsRowOf}
use Rattle.blif_read.specs.declared.fault.NetLimits.{NetLimits}
use Rattle.blif_read.specs.Words.{is_name_under, pin_names, row_end}
use Rattle.blif_read.specs.Says.{Declared, faults, gate_of, gates_of}
use Rattle.blif_read.specs.Build.{row_cube, rows_of}
use Rattle.blif_read.proofs.Sound.{AreGateWords, line_none, names_none, gate_words}

-- what makes a valid gate
pub record IsFit (limits : NetLimits) (g : NamedGate) : Type 0 where
  pub few : length g.pins ≤ PINS
  pub out : is_name_under limits g.out ≡ true
  pub rows : AllByRecursion (IsRowOf (length g.pins)) g.rows
  pub off_row : g.on ≡ false → 0 < length g.rows

rows_of_pins : (k : ℕ) (rows : List (List ℕ)) → AllByRecursion (IsRowOf k) (map (row_cube k) rows)
rows_of_pins k [] = tt
rows_of_pins k (r ∷ rows) = (let over = cube_over k (take k r) (omega (arith, length-take k r)) in record { is_product = over.0; pos = over.1; neg = over.2 }, rows_of_pins k rows)

some_row : (k : ℕ) (rows : List (List ℕ)) → (eqb (length rows) 0 || eqb (row_end (get_or rows 0 [])) 49) ≡ false → 0 < length (map (row_cube k) rows)
some_row k [] h = absurd cc
some_row k (r ∷ rows) h = omega arith

gate_fits : (limits : NetLimits) (ws : List Word) (rows : List (List ℕ)) → AreGateWords limits ws → IsFit limits (gate_of ws rows)
gate_fits limits ws rows fine =
    let size : length (pin_names ws) ≡ length ws - 1 = length-take-le (length ws - 1) ws (omega arith) in
    record {
      few = omega (arith, fine.few, size);
      out = fine.out;
      rows = subst (λ n. AllByRecursion (IsRowOf n) (map (row_cube (length ws - 1)) rows)) (sym size) (rows_of_pins (length ws - 1) rows);
      off_row = some_row (length ws - 1) rows;
    }

pub gates_fit : (limits : NetLimits) (model : Option Declared) (done : List (List Word)) (lines : List WordLine) → first_fault (faults limits model) done lines ≡ None → AllByRecursion (IsFit limits) (gates_of (words_of lines))
unfolding gates_of
gates_fit limits model done [] h = tt
gates_fit limits model done (line ∷ lines) h =
    let p = line_none limits model done line lines h in
    pick (heads (codes ".names") line.words) (λ e. gate_words limits _ _ _ (drop 1 line.words) (names_none limits model done line.words e p.0)) (gates_fit limits model (done ++ line.words ∷ []) lines p.1)
  where
    pick : (b : Bool) → (b ≡ true → AreGateWords limits (drop 1 line.words)) → AllByRecursion (IsFit limits) (gates_of (words_of lines))
        → AllByRecursion (IsFit limits) (cond b (gate_of (drop 1 line.words) (rows_of lines) ∷ []) [] ++ gates_of (words_of lines))
    pick true fine rest = (gate_fits limits (drop 1 line.words) (rows_of lines) (fine refl), rest)
    pick false fine rest = rest
