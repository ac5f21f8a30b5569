-- The pass of faults begins: inputs with faults have the words that are seen there, and gates with faults are marked.
use Rattle.std.proofs.Common.{◌≡◌, ◌≢◌, ℕ, ◌+◌, ◌-◌, ◌<◌, ◌≤◌, Bool, true, false, inl, inr, List, length, refl, sym, ap, ◌∙◌, subst, arith}
use Rattle.std.specs.Prelude.{Option, Some, None, slice_get, slice_index}
use Rattle.std.proofs.lemmas.Bool.{false≢true, cases_Bool, cases_eq, cases_lt}
use Rattle.std.proofs.lemmas.Option.{slice_get_within}
use Rattle.ae_base.specs.Mask.{has}
use Rattle.ae_net.specs.declared.net.Gate.{Gate}
use Rattle.ae_net.specs.declared.net.Place.TheVariants.{Stem}
use Rattle.ae_net.specs.Network.{Network, signals}
use Rattle.ae_net.specs.Run.{seen}
use Rattle.ae_net.specs.Valid.{IsValid}
use Rattle.fault_sim.specs.declared.cone.Cone.{Cone}
use Rattle.fault_sim.specs.declared.held.Held.{Held}
use Rattle.fault_sim.specs.declared.words.TheConstants.{LANES}
use Rattle.fault_sim.specs.Marks.{is_marked}
use Rattle.fault_sim.specs.Sites.{IsHeld, entry, fault_in, site_at, sites}
use Rattle.fault_sim.specs.Spread.{AreMarks, AreReaders, IsAtRest, IsBegun, IsPut, IsSpread, row}
use Rattle.fault_sim.proofs.Cones.{calm-to, put-changed, put-quiet, rest_word, unmarked_before}
use Rattle.fault_sim.proofs.Holding.{free-site, unseen}

pub begun-at_rest : (n : Network) (held : Held) (good : List ℕ) (cone : Cone) → IsHeld n held → IsAtRest good cone → IsBegun n held good cone 0
begun-at_rest n held good cone is rest = record {
  inputs = λ s within none l lt.
      ap (λ u. has u l) (rest_word good cone rest s)
      ∙ sym (unseen n held.faults.items (entry held.all l) s (Stem s) (has (slice_index good s) l) refl (λ less. (is.last s (omega (arith, within))).others (entry held.all l) (omega (arith, none)) less));
  left = λ s some. rest_word good cone rest s;
  rest = λ s from. rest_word good cone rest s;
  quiet = λ k gate there none p lt. rest_word good cone rest (slice_index gate.pins p);
  sites = λ k d within before none same. omega (arith, before);
  changed = λ s none. rest_word good cone rest s;
}

-- the fault that is the last at an input
last-at : (n : Network) (held : Held) (e s : ℕ) → IsHeld n held → s < length n.inputs → slice_index held.last.items s ≡ e + 1 → site_at n held.faults.items e ≡ s
last-at n held e s is within last =
    let before : slice_index held.last.items s - 1 ≡ e = omega (arith, last) in
    ap (site_at n held.faults.items) (sym before) ∙ (is.last s (omega (arith, within))).at (omega (arith, last))

-- a fault that is at a gate, past all signals, or not the last at its input
pub begun-on : (n : Network) (held : Held) (good : List ℕ) (before after : Cone) (e : ℕ) → IsHeld n held → after.words.items ≡ before.words.items → after.changed.items ≡ before.changed.items → ((k : ℕ) → is_marked before.marked.items k ≡ true → is_marked after.marked.items k ≡ true)
    → ((k : ℕ) → k < length n.gates → is_marked after.marked.items k ≡ false → site_at n held.faults.items e ≢ length n.inputs + k) → (site_at n held.faults.items e < length n.inputs → slice_index held.last.items (site_at n held.faults.items e) ≢ e + 1)
    → IsBegun n held good before e → IsBegun n held good after (e + 1)
begun-on n held good before after e is words changed kept gates not_last begun = record {
  inputs = λ s within few l lt. ap (λ ws. has (slice_index ws s) l) words ∙ elim (cases_eq (slice_index held.last.items s) (e + 1)) [
    | inl last ↦
        let at = last-at n held e s is within last in
        absurd (not_last (omega (arith, at, within)) (ap (slice_index held.last.items) at ∙ last))
    | inr other ↦ begun.inputs s within (omega (arith, few, other)) l lt
  ];
  left = λ s some. ap (λ ws. slice_index ws s) words ∙ begun.left s (omega (arith, some));
  rest = λ s from. ap (λ ws. slice_index ws s) words ∙ begun.rest s from;
  quiet = λ k gate there none p lt. ap (λ ws. slice_index ws (slice_index gate.pins p)) words ∙ begun.quiet k gate there (unmarked_before _ _ (kept k) none) p lt;
  sites = λ k d within lower none. elim (cases_eq d e) [
    | inl new ↦ λ same. gates k within none (ap (site_at n held.faults.items) (sym new) ∙ same)
    | inr old ↦ begun.sites k d within (omega (arith, lower, old)) (unmarked_before _ _ (kept k) none)
  ];
  changed = λ s none. ap (λ ws. slice_index ws s) words ∙ begun.changed s (ap (λ marks. is_marked marks s) (sym changed) ∙ none);
}

-- the last fault at an input
pub begun-input : (n : Network) (held : Held) (good : List ℕ) (readers : List (List ℕ)) (s word e : ℕ) (before after : Cone) → IsHeld n held → AreReaders n readers → s < length n.inputs → slice_index held.last.items s ≡ e + 1
    → ((l : ℕ) → l < LANES → has word l ≡ seen (fault_in held l) (Stem s) (has (slice_index good s) l)) → IsPut good (row readers s) s word before after → IsBegun n held good before e → IsBegun n held good after (e + 1)
begun-input n held good readers s word e before after is are within last seen_here put begun =
    let same = begun.left s (omega (arith, last)) in
    let at = last-at n held e s is within last in record {
      inputs = λ t input few l lt. elim (cases_eq t s) [
        | inl here ↦
            ap (λ t. has (slice_index after.words.items t) l) here
            ∙ ap (λ u. has u l) (put.writes same)
            ∙ seen_here l lt
            ∙ ap (λ t. seen (fault_in held l) (Stem t) (has (slice_index good t) l)) (sym here)
        | inr ne ↦
            ap (λ u. has u l) (put.others t ne)
            ∙ begun.inputs t input (elim (cases_eq (slice_index held.last.items t) (e + 1)) [ inl new ↦ absurd (ne (sym (last-at n held e t is input new) ∙ at)) | inr old ↦ omega (arith, few, old) ]) l lt
      ];
      left = λ t some. put.others t (λ here. omega (arith, some, last, ap (slice_index held.last.items) here)) ∙ begun.left t (omega (arith, some));
      rest = λ t from. put.others t (omega (arith, from, within)) ∙ begun.rest t from;
      quiet = λ k gate there none. put-quiet n good readers s word before after k gate are put same there none (begun.quiet k gate there);
      sites = λ k d gate lower none. elim (cases_eq d e) [
        | inl new ↦ λ here. omega (arith, here, within, at, ap (site_at n held.faults.items) new)
        | inr old ↦ begun.sites k d gate (omega (arith, lower, old)) (unmarked_before _ _ (put.kept k) none)
      ];
      changed = put-changed good (row readers s) s word before after put same begun.changed;
    }

-- all faults: the gates before the first that is marked have their words with the faults
pub begun-all : (n : Network) (held : Held) (good : List ℕ) (cone : Cone) (m start : ℕ) → IsValid n → IsHeld n held → m ≡ length held.faults.items → AreMarks n cone start → start ≤ length n.gates → IsBegun n held good cone m → IsSpread n (fault_in held) good cone start start
begun-all n held good cone m start valid is all marks within begun =
    let free = λ (k : ℕ) (lt : k < length n.gates) (none : is_marked cone.marked.items k ≡ false). free-site n held k is lt (not-held k lt none) in record {
      faulty = calm-to n (fault_in held) good cone.words.items 0 start valid (omega arith) within
          (λ j gate there from to. let none = unmarked j to in (begun.quiet j gate there none, free j (omega (arith, to, within)) none))
          (λ s from. begun.rest s (omega (arith, from)))
          (λ l x w v lt w_run v_run w_lane s h.
          let input : s < length n.inputs = omega (arith, h) in
          begun.inputs s input (omega (arith, (is.last s (omega (arith, input))).within, all)) l lt
          ∙ ap (seen (fault_in held l) (Stem s)) (w_lane s (omega (arith, input)) ∙ w_run.inputs s input)
          ∙ sym (v_run.inputs s input));
      rest = λ s from. begun.rest s (omega (arith, from));
      quiet = λ k gate there from none. (begun.quiet k gate there none, free k (slice_get_within n.gates k gate there) none);
      changed = begun.changed;
    }
  where
    unmarked : (j : ℕ) → j < start → is_marked cone.marked.items j ≡ false
    unmarked j to = elim (cases_Bool (is_marked cone.marked.items j)) [ inl set ↦ absurd (omega (arith, to, (marks.marked j set).0)) | inr none ↦ none ]

    not-held : (k : ℕ) → k < length n.gates → is_marked cone.marked.items k ≡ false → slice_index held.last.items (length n.inputs + k) ≡ 0
    not-held k lt none = elim (cases_eq (slice_index held.last.items (length n.inputs + k)) 0) [
      | inl e ↦ e
      | inr some ↦
          let last = is.last (length n.inputs + k) (omega (arith, lt)) in
          let positive : 0 < slice_index held.last.items (length n.inputs + k) = omega (arith, some) in
          absurd (begun.sites k (slice_index held.last.items (length n.inputs + k) - 1) lt (omega (arith, last.within, all, positive)) none (last.at positive))
    ]

pub marks-down : (n : Network) (cone : Cone) (j i : ℕ) → i ≤ j → AreMarks n cone j → AreMarks n cone i
marks-down n cone j i lower marks = record { marked = λ k set. let at = marks.marked k set in (omega (arith, at.0, lower), at.1); changed = marks.changed }
