-- The words of the command line as `clap` takes them: a mode, names, and options of one value each, which may stand anywhere before a `--`.
use Rattle.std.specs.Prelude.{ℕ, true, if◌then◌else◌, List, [], Option, Some, None, codes, unwrap_or}
use Rattle.clap.specs.Lexer.{usize_max}
use Rattle.clap.specs.Simple.{on_top}
use Rattle.clap.specs.Walk.{is_empty}
use Rattle.clap.specs.Words.{App, Row, Rule, Text, all_of, fault_of, first_of, matches_of, new_app, new_rule, with_rule}

-- the mode, which is required
abbrev pub mode_rule : Rule
mode_rule = record (new_rule (codes "MODE")) { required = true }

-- one name or more, after the mode
abbrev pub names_rule : Rule
names_rule = record (new_rule (codes "NAMES")) { range = Some (record { start_inclusive = 1; end_inclusive = usize_max }) }

-- an option with one value
abbrev pub option_rule : Text → Rule
option_rule name = record (new_rule name) { long = Some name }

-- the command without its arguments: no help and no version, and the words do not begin with the program's name
abbrev pub bare : App
bare =
    on_top (λ s. record s {
      disable_help_flag = true;
      disable_version_flag = true;
      disable_help_subcommand = true;
      no_binary_name = true;
    })
    (new_app (codes "andexor"))

abbrev pub positionals : App
positionals = with_rule (with_rule bare mode_rule) names_rule

abbrev pub command_line : App
command_line = with_rule (with_rule (with_rule positionals (option_rule (codes "kind"))) (option_rule (codes "form"))) (option_rule (codes "polarity"))

-- what words say: the mode, the names, and the value of each option that is given
pub record Said : Type 0 where
  pub mode : Text
  pub names : List Text
  pub kind : Option Text
  pub form : Option Text
  pub polarity : Option Text

abbrev pub said_by : List Row → Said
said_by rows = record {
  mode = unwrap_or (first_of (codes "MODE") rows) [];
  names = unwrap_or (all_of (codes "NAMES") rows) [];
  kind = first_of (codes "kind") rows;
  form = first_of (codes "form") rows;
  polarity = first_of (codes "polarity") rows;
}

-- what the words say where `clap` takes them
unfoldable pub said : List Text → Option Said
said words = if is_empty (fault_of command_line words) then Some (said_by (matches_of command_line words)) else None
