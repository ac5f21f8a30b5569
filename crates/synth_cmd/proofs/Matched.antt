-- What words ask for, by the matches that `clap` finds.
use Rattle.std.proofs.Common.{◌≡◌, ◌≢◌, ◌∙◌, ℕ, List, [], ◌∷◌, Some, None, false, length, cond, refl, sym, ap, arith}
use Rattle.std.proofs.lemmas.Bool.{ne_eqb}
use Rattle.std.specs.Option.{option_map_or}
use Rattle.clap.specs.Walk.{is_empty}
use Rattle.clap.specs.Words.{fault_of, found_of, matches_of, rows_of}
use Rattle.clap.specs.declared.parser.matches.ArgMatches.{ArgMatches}
use Rattle.synth_cmd.specs.Asked.{asked_by, command_by}
use Rattle.synth_cmd.specs.Asked.Asked.{Refused}
use Rattle.synth_cmd.specs.CommandLine.{command_line, said, said_by}
use Rattle.synth_cmd.specs.Words.{IsParsed}

some_fault : {X : Type 0} (xs : List X) → xs ≢ [] → is_empty xs ≡ false
some_fault [] ne = absurd (ne refl)
some_fault (x ∷ xs) ne = ne_eqb (length (x ∷ xs)) 0 (λ e. omega (arith, e))

said_some : (words : List (List ℕ)) (m : ArgMatches) → IsParsed words (Some m) → said words ≡ Some (said_by (rows_of (found_of m)))
unfolding said
said_some words m h = ap (λ k. cond (is_empty k) (Some (said_by (matches_of command_line words))) None) h.0 ∙ ap (λ rows. Some (said_by rows)) (sym h.1)

said_none : (words : List (List ℕ)) → IsParsed words None → said words ≡ None
unfolding said
said_none words h = ap (λ b. cond b (Some (said_by (matches_of command_line words))) None) (some_fault (fault_of command_line words) h)

pub asked_some : (words : List (List ℕ)) (m : ArgMatches) → IsParsed words (Some m) → asked_by words ≡ command_by (said_by (rows_of (found_of m))) (said_by (rows_of (found_of m))).names
asked_some words m h = ap (λ o. option_map_or (λ said. command_by said said.names) o Refused) (said_some words m h)

pub asked_none : (words : List (List ℕ)) → IsParsed words None → asked_by words ≡ Refused
asked_none words h = ap (λ o. option_map_or (λ said. command_by said said.names) o Refused) (said_none words h)
