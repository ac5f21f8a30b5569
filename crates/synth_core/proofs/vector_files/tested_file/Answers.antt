use Rattle.std.proofs.Common.{◌≡◌, length, ap, arith}
use Rattle.std.proofs.lemmas.Result.{IfOk-weaker}
use Rattle.synth_core.specs.Steps.{IsTestedFile, factored_file}
use Rattle.synth_core.proofs.vector_files.tested_file.Goals as goal

pub tests_of-requires : goal.tests_of-requires
tests_of-requires c = omega (arith, c.requires.inputs, c.requires.net.fits.inputs, ap length c.requires.net.names_are.inputs)

pub factored_file-requires-clause-valid : goal.factored_file-requires-clause-valid
factored_file-requires-clause-valid c =
    c.factored_synthesis_law.ensures.valid c.args.names.now c.args.polarity c.args.esop.now c.args.net.now c.in_ok-tests.tests.points c.in_ok-tests.tests.unchanged
    c.requires.signs c.requires.inputs c.requires.net (c.in_ok-tests.ensures)

pub factored_file-requires-clause-few : goal.factored_file-requires-clause-few
factored_file-requires-clause-few c = omega (arith, c.requires.net.fits.outputs, c.requires.net.named.few_outputs)

pub returns : goal.returns
returns c =
    IfOk-weaker c.factored_file.result (λ file. file ≡ factored_file c.args.names.now c.args.polarity c.args.esop.now c.args.net.now c.in_ok-tests.tests.points c.in_ok-tests.tests.unchanged)
    (IsTestedFile c.args.names.now c.args.polarity c.args.esop.now c.args.net.now)
    (λ file is. record { points = c.in_ok-tests.tests.points; unchanged = c.in_ok-tests.tests.unchanged; tests = c.in_ok-tests.ensures; is = is }) c.factored_file.ensures
