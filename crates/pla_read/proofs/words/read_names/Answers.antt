use Rattle.std.proofs.Common.{◌≡◌, ℕ, true, List, length, sym, ap, ◌∙◌, subst, All}
use Rattle.std.specs.List.{list_all}
use Rattle.std.proofs.lemmas.Bool.{and_parts, eqb-true}
use Rattle.std.proofs.lemmas.List.Sums.{AllPass-from_list_all, list_all-from_AllPass}
use Rattle.ae_base.specs.Name.{is_name, is_source_name}
use Rattle.ae_lex.specs.Slices.{texts}
use Rattle.pla_read.specs.Words.{are_names}
use Rattle.pla_read.proofs.words.read_names.Goals as goal

-- so many words, each of which is a name of a source
names : (n : ℕ) (ws : List (List ℕ)) → are_names n ws ≡ true → (length ws ≡ n) × All (λ name. is_source_name name ≡ true) ws
unfolding are_names
names n ws h = let parts = and_parts _ (list_all is_source_name ws) h in (eqb-true _ _ parts.0, AllPass-from_list_all is_source_name ws parts.1)

pub names_of-requires : goal.names_of-requires
names_of-requires c =
    let words = texts c.args.words.now in
    let each = (names c.args.n words (sym c.are_names.ensures ∙ c.if-not-are_names.false)).1 in
    list_all-from_AllPass is_name words (λ k d lt. (and_parts _ _ (each k d lt)).0)

pub returns-clause-count : goal.returns-clause-count
returns-clause-count c = ap length c.in_ok-names_of.ensures ∙ (names c.args.n (texts c.args.words.now) (sym c.are_names.ensures ∙ c.if-not-are_names.false)).0

pub returns-clause-named : goal.returns-clause-named
returns-clause-named c = subst (All (λ name. is_source_name name ≡ true)) (sym c.in_ok-names_of.ensures) (names c.args.n (texts c.args.words.now) (sym c.are_names.ensures ∙ c.if-not-are_names.false)).1
