use Rattle.std.proofs.Common.{rules}
use Rattle.std.specs.Prelude.{map}
use Rattle.std.specs.String.{string_bytes}
use Rattle.j1_workbench.specs.Surroundings.{stream, folder}
use Rattle.j1_workbench.proofs.Commands.{does_build, does_list, does_assemble, does_certify, does_bound, does_net, does_evaluate, does_forth, does_make, does_memory, does_kernel, does_trace}
use Rattle.j1_workbench.proofs.answering.answer.Goals as goal

pub returns-in-Some-Certify : goal.returns-in-Some-Certify
returns-in-Some-Certify g c =
    does_certify _ c.in-Some-Certify.source.now _ _ _ _ (search rules) (c.certify.ensures (stream (g.C.Source.left c.args.console.now) (g.C.Source.calls c.args.console.now) (g.C.Source.faults c.args.console.now)))

pub returns-in-Some-Bound : goal.returns-in-Some-Bound
returns-in-Some-Bound g c =
    does_bound _ c.in-Some-Bound.source.now _ _ _ _ (search rules) (c.bound.ensures (stream (g.C.Source.left c.args.console.now) (g.C.Source.calls c.args.console.now) (g.C.Source.faults c.args.console.now)))

pub returns-in-Some-Net : goal.returns-in-Some-Net
returns-in-Some-Net g c =
    does_net _ c.in-Some-Net.file.now _ _ _ _ (search rules) (c.net.ensures (stream (g.C.Source.left c.args.console.now) (g.C.Source.calls c.args.console.now) (g.C.Source.faults c.args.console.now)))

pub returns-in-Some-Build : goal.returns-in-Some-Build
returns-in-Some-Build g c =
    does_build _ c.in-Some-Build.source.now c.in-Some-Build.image.now _ _ _ _ (search rules)
    (c.build.ensures (stream (g.C.Source.left c.args.console.now) (g.C.Source.calls c.args.console.now) (g.C.Source.faults c.args.console.now))
    (stream (g.O.Sink.held c.args.out.now) (g.O.Sink.calls c.args.out.now) (g.O.Sink.faults c.args.out.now)))

pub returns-in-Some-ListImage : goal.returns-in-Some-ListImage
returns-in-Some-ListImage g c =
    does_list _ c.in-Some-ListImage.image.now _ _ _ c.answered-in-Some-ListImage.result (search rules) c.answered-in-Some-ListImage.ensures
    (c.list.ensures (stream (g.C.Source.left c.args.console.now) (g.C.Source.calls c.args.console.now) (g.C.Source.faults c.args.console.now)))

pub returns-in-Some-Assemble : goal.returns-in-Some-Assemble
returns-in-Some-Assemble g c =
    does_assemble _ c.in-Some-Assemble.listing.now c.in-Some-Assemble.image.now _ _ _ c.answered-in-Some-Assemble.result (search rules) c.answered-in-Some-Assemble.ensures
    (c.assemble_file.ensures (stream (g.C.Source.left c.args.console.now) (g.C.Source.calls c.args.console.now) (g.C.Source.faults c.args.console.now))
    (stream (g.O.Sink.held c.args.out.now) (g.O.Sink.calls c.args.out.now) (g.O.Sink.faults c.args.out.now)))

pub returns-in-Some-Evaluate : goal.returns-in-Some-Evaluate
returns-in-Some-Evaluate g c = does_evaluate _ c.in-Some-Evaluate.source.now c.in-Some-Evaluate.steps c.steps_allowed-in-Some-Evaluate.result _ _ _ _ (search rules) c.steps_allowed-in-Some-Evaluate.ensures c.evaluate_source.ensures

pub returns-in-Some-Make : goal.returns-in-Some-Make
returns-in-Some-Make g c =
    does_make (map string_bytes c.args.words.now) c.in-Some-Make.seed c.in-Some-Make.count _ _ _ _ _ (search rules) c.steps_allowed-in-Some-Make.ensures
    (c.make.ensures (folder (g.F.Folder.files c.args.files.now) (g.F.Folder.calls c.args.files.now) (g.F.Folder.read_faults c.args.files.now) (g.F.Folder.write_faults c.args.files.now) (g.F.Folder.absences c.args.files.now))
    (stream (g.C.Source.left c.args.console.now) (g.C.Source.calls c.args.console.now) (g.C.Source.faults c.args.console.now)))

pub returns-in-Some-Forth : goal.returns-in-Some-Forth
returns-in-Some-Forth g c =
    does_forth _ c.in-Some-Forth.steps c.session_steps.result _ _ c.serve.result c.answered-in-Some-Forth.result (search rules) c.session_steps.ensures c.answered-in-Some-Forth.ensures
    (c.serve.ensures (folder (g.F.Folder.files c.args.files.now) (g.F.Folder.calls c.args.files.now) (g.F.Folder.read_faults c.args.files.now) (g.F.Folder.write_faults c.args.files.now) (g.F.Folder.absences c.args.files.now)))

pub returns-in-Some-WriteMemory : goal.returns-in-Some-WriteMemory
returns-in-Some-WriteMemory g c =
    does_memory _ c.in-Some-WriteMemory.image.now c.in-Some-WriteMemory.text.now _ _ _ c.answered-in-Some-WriteMemory.result (search rules) c.answered-in-Some-WriteMemory.ensures
    (c.write_memory.ensures (stream (g.C.Source.left c.args.console.now) (g.C.Source.calls c.args.console.now) (g.C.Source.faults c.args.console.now))
    (stream (g.O.Sink.held c.args.out.now) (g.O.Sink.calls c.args.out.now) (g.O.Sink.faults c.args.out.now)))

pub returns-in-Some-WriteKernel : goal.returns-in-Some-WriteKernel
returns-in-Some-WriteKernel g c =
    does_kernel _ c.in-Some-WriteKernel.image.now _ _ _ c.answered-in-Some-WriteKernel.result (search rules) c.answered-in-Some-WriteKernel.ensures
    (c.write_kernel.ensures (stream (g.C.Source.left c.args.console.now) (g.C.Source.calls c.args.console.now) (g.C.Source.faults c.args.console.now))
    (stream (g.O.Sink.held c.args.out.now) (g.O.Sink.calls c.args.out.now) (g.O.Sink.faults c.args.out.now)))

pub returns-in-Some-Trace : goal.returns-in-Some-Trace
returns-in-Some-Trace g c =
    does_trace _ c.in-Some-Trace.image.now c.in-Some-Trace.steps c.trace_steps-steps.result _ _ c.trace_image.result c.answered-in-Some-Trace.result (search rules) c.trace_steps-steps.ensures
    c.answered-in-Some-Trace.ensures c.trace_image.ensures
