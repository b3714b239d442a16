use Rattle.std.proofs.{Common.{◌∙◌, ap}, lemmas.Result.IfOk-weaker}
use Rattle.{clap.specs.Simple.{app_of_fields, on_top}, mctower.{specs.Line.{program, with_version, without_binary_name}, proofs.LineLemmas.program_grown}}
use Rattle.mctower.proofs.line.program.Goals as goal

pub returns : goal.returns
unfolding program
returns c =
    let nameless = ap app_of_fields c.no_binary_name.ensures ∙ ap (on_top without_binary_name) c.new.ensures.app in
    let bare = ap app_of_fields c.version.ensures ∙ ap (on_top with_version) nameless in
    let count = c.in_ok-count_command.ensures in
    let run = c.in_ok-run_command.ensures in
    let threads = c.in_ok-threads_command.ensures in
    let one = program_grown _ _ _ _ _ c.in_ok-subcommand.ensures bare count.0 count.1 in
    let two = program_grown _ _ _ _ _ c.in_ok-subcommand-2.ensures one run.0 run.1 in
    let three = program_grown _ _ _ _ _ c.in_ok-subcommand-3.ensures two threads.0 threads.1 in
    IfOk-weaker c.subcommand-4.result _ _ (λ r adds. program_grown _ _ _ _ _ adds three c.new-2.ensures.app c.new-2.ensures.local) c.subcommand-4.ensures
