-- Commands of the program, as what is asked for.
use Rattle.j1_workbench.specs.declared.words.Command.{Command}
use Rattle.j1_workbench.specs.declared.words.Command.TheVariants as command
use Rattle.j1_workbench.specs.Words.{Request, Run, Build, Execute, ListImage, Assemble, Certify, Evaluate, Forth, Make, Bound, Net, WriteMemory, WriteKernel, Trace}

abbrev pub requested : Command → Request
requested (command.Run source steps) = Run source.now steps
requested (command.Build source image) = Build source.now image.now
requested (command.Execute image steps) = Execute image.now steps
requested (command.ListImage image) = ListImage image.now
requested (command.Assemble listing image) = Assemble listing.now image.now
requested (command.Certify source) = Certify source.now
requested (command.Evaluate source steps) = Evaluate source.now steps
requested (command.Forth steps) = Forth steps
requested (command.Make seed count) = Make seed count
requested (command.Bound source) = Bound source.now
requested (command.Net file) = Net file.now
requested (command.WriteMemory image text) = WriteMemory image.now text.now
requested (command.WriteKernel image) = WriteKernel image.now
requested (command.Trace image steps) = Trace image.now steps
