-- A valid network has one simulation of a subcube: simulations are the evaluations over lines.
use Rattle.std.proofs.Common.{◌≡◌, ℕ, zero, suc, ◌<◌, ◌≤◌, Bool, true, false, cond, List, length, refl, sym, ap, ap₂, ◌∙◌, arith, ◌&&◌, ◌||◌}
use Rattle.std.specs.Prelude.{None, slice_index, All, is_some}
use Rattle.std.proofs.lemmas.Bool.{or_left}
use Rattle.std.proofs.lemmas.List.{ext_get_or}
use Rattle.std.proofs.lemmas.Option.{slice_get-get_or}
use Rattle.ae_base.proofs.Below.{where_below_agree}
use Rattle.ae_net.specs.declared.net.Gate.{Gate}
use Rattle.ae_net.specs.declared.net.Place.{Place}
use Rattle.ae_net.specs.declared.net.Place.TheVariants.{Stem, Pin, Port}
use Rattle.ae_net.specs.declared.net.Fault.{Fault}
use Rattle.ae_net.specs.Evaluation.{IsEvaluation, IsLocal, HasOneEvaluation, AreKept, AreAllKept, pin_seen}
use Rattle.ae_net.specs.Network.{Network, signals}
use Rattle.redundancy.specs.declared.lines.Line.{Line}
use Rattle.redundancy.specs.declared.lines.Subcube.{Subcube}
use Rattle.redundancy.specs.Simulation.{Known, is_one, is_zero, each_below, known_pins, known_table, held, gate_line, line_of, IsSimulation}
use Rattle.redundancy.specs.Leaf.{line_at, port_line}
use Rattle.redundancy.specs.Worked.{known_lines, lines_in, is_known, is_untouched, leaf_holds}
use Rattle.redundancy.specs.Kept.{line_in, pin_kept, port_kept, signal_of}

-- ---- a gate's line follows from the lines of its pins

pub each_below_agree : (n : ℕ) (p q : ℕ → Bool) → ((k : ℕ) → k < n → p k ≡ q k) → each_below n p ≡ each_below n q
each_below_agree zero p q h = refl
each_below_agree (suc n) p q h = ap₂ (λ b c. b && c) (h n (omega arith)) (each_below_agree n p q (λ k l. h k (omega arith)))

known_pins_agree : (n : ℕ) (f g : ℕ → Known) → ((k : ℕ) → k < n → f k ≡ g k) → known_pins n f ≡ known_pins n g
known_pins_agree n f g h = ap₂ (λ a b. record { pos = a; neg = b }) (where_below_agree n _ _ (λ k l. ap is_one (h k l))) (where_below_agree n _ _ (λ k l. ap is_zero (h k l)))

abbrev alone : Line → Known
alone l = cond l.quiet l.good None

gate_line_agree : (gate : Gate) (p q : ℕ → Line) → ((k : ℕ) → k < length gate.pins → p k ≡ q k) → gate_line gate p ≡ gate_line gate q
gate_line_agree gate p q h =
    let n = length gate.pins in
    parts (ap (known_table gate) (known_pins_agree n _ _ (λ k l. ap (λ v. v.good) (h k l))))
    (ap (known_table gate) (known_pins_agree n _ _ (λ k l. ap (λ v. v.faulty) (h k l))))
    (ap₂ (λ a b. a || is_some b) (each_below_agree n _ _ (λ k l. ap (λ v. v.quiet) (h k l))) (ap (known_table gate) (known_pins_agree n (λ k. alone (p k)) (λ k. alone (q k)) (λ k l. ap alone (h k l)))))
  where
    parts : {g b g' b' : Known} {c c' : Bool} → g ≡ g' → b ≡ b' → c ≡ c' → ◌≡◌ {A = Line} (record { good = g; faulty = b; quiet = c }) (record { good = g'; faulty = b'; quiet = c' })
    parts e f k = cc

pub lines_local : (fault : Fault) (d : Subcube) → IsLocal (known_lines fault d)
lines_local fault d = gate_line_agree

-- ---- simulations are evaluations

pub evaluation-of_simulation : (n : Network) (fault : Fault) (d : Subcube) (lines : List Line) → IsSimulation n fault d lines → IsEvaluation (known_lines fault d) n (line_of lines)
evaluation-of_simulation n fault d lines sim = record { inputs = sim.inputs; gates = sim.gates }

module _ (n : Network) (fault : Fault) (d : Subcube) (one : HasOneEvaluation (known_lines fault d) n) where
  pub IsSimulation-lines_in : IsSimulation n fault d (lines_in n fault d)
  unfolding lines_in
  IsSimulation-lines_in = record { all = one.count; inputs = one.is.inputs; gates = one.is.gates }

  pub only_simulation : (lines : List Line) → IsSimulation n fault d lines → lines ≡ lines_in n fault d
  unfolding lines_in
  only_simulation lines sim = ext_get_or (known_lines fault d).nothing lines _ (sim.all ∙ sym one.count) (λ s l. one.only (line_of lines) (evaluation-of_simulation n fault d lines sim) s (omega (arith, sim.all)))

-- ---- the bytes

-- bytes give a gate the line that the lines that are kept in them give
pub gate_kept : (fault : Fault) (d : Subcube) (bytes : List ℕ) (i : ℕ) (gate : Gate) (value : ℕ → Line) → All (λ pin. pin < length bytes) gate.pins → AreKept line_in gate bytes value
    → gate_line gate (pin_kept fault bytes i gate) ≡ gate_line gate (pin_seen (known_lines fault d) value i gate)
gate_kept fault d bytes i gate value earlier kept =
    gate_line_agree gate _ _ (λ k l. ap (held fault (Pin i k)) (kept k (slice_index bytes (slice_index gate.pins k)) l (slice_get-get_or bytes (slice_index gate.pins k) 0 (earlier k 0 l))))

line_at-signal_of : (n : Network) (lines : List Line) (p : Place) → line_at n lines p ≡ line_of lines (signal_of n p)
line_at-signal_of n lines (Stem s) = refl
line_at-signal_of n lines (Pin i k) = refl
line_at-signal_of n lines (Port o) = refl

module _ (n : Network) (fault : Fault) (d : Subcube) (bytes : List ℕ) (room : signals n ≤ length bytes) (kept : AreAllKept line_in (known_lines fault d) n bytes) where
  line_kept : (s : ℕ) → s < signals n → line_in (slice_index bytes s) ≡ line_of (lines_in n fault d) s
  unfolding lines_in
  line_kept s l = kept s (slice_index bytes s) l (slice_get-get_or bytes s 0 (omega arith))

  site_kept : (s : ℕ) → s ≡ signal_of n fault.place → s < signals n → line_in (slice_index bytes s) ≡ line_at n (lines_in n fault d) fault.place
  site_kept s e l = line_kept s l ∙ ap (line_of (lines_in n fault d)) e ∙ sym (line_at-signal_of n _ fault.place)

  -- the line of the fault's place decides
  pub holds_by_site : (s : ℕ) (site : Line) (r : Bool) → s ≡ signal_of n fault.place → s < signals n → site ≡ line_in (slice_index bytes s) → r ≡ is_known fault.value site.good → r ≡ true → r ≡ leaf_holds n fault d
  unfolding leaf_holds
  holds_by_site s site r e l site_is r_is told =
      told ∙ sym (or_left _ _ (ap (λ v. is_known fault.value v.good) (sym (site_is ∙ site_kept s e l)) ∙ sym r_is ∙ told))

  -- the ports decide
  pub holds_by_ports : (s : ℕ) (site : Line) (r q : Bool) (outputs : List ℕ) → s ≡ signal_of n fault.place → s < signals n → site ≡ line_in (slice_index bytes s) → r ≡ is_known fault.value site.good → r ≡ false
      → outputs ≡ n.outputs → All (λ s. s < signals n) n.outputs → q ≡ each_below (length outputs) (λ o. is_untouched (port_kept fault bytes outputs o)) → q ≡ leaf_holds n fault d
  unfolding leaf_holds
  holds_by_ports s site r q outputs e l site_is r_is told outputs_are within q_is =
      q_is
      ∙ ap (λ outs. each_below (length outs) (λ o. is_untouched (port_kept fault bytes outs o))) outputs_are
      ∙ each_below_agree (length n.outputs) _ _ (λ o m. ap (λ v. is_untouched (held fault (Port o) v)) (line_kept (slice_index n.outputs o) (within o 0 m)))
      ∙ sym (ap (λ b. b || each_below (length n.outputs) (λ o. is_untouched (port_line n fault (lines_in n fault d) o))) (ap (λ v. is_known fault.value v.good) (sym (site_is ∙ site_kept s e l)) ∙ sym r_is ∙ told))
