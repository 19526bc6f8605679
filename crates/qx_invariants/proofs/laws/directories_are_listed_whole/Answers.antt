use Rattle.qx_machine.proofs.Directories.{names_rise}
use Rattle.qx_machine.proofs.Listings.{listed_end, listed_to_end}
use Rattle.qx_invariants.proofs.Reached.{run_holds, sized_names, told_listings}
use Rattle.qx_invariants.proofs.laws.directories_are_listed_whole.Goals as goal

pub returns : goal.returns
returns c = record {
  rising = λ config steps user part there directory. names_rise part.resources.names directory ((run_holds config steps user part there).names.single directory);
  whole = λ config steps user part there directory listings none. let h = run_holds config steps user part there in listed_to_end part.resources.names directory (h.names.single directory) (sized_names part.resources h.tree directory) listings none;
  ends = λ config steps user part there directory listings enough. let h = run_holds config steps user part there in listed_end part.resources.names directory (h.names.single directory) (sized_names part.resources h.tree directory) listings enough;
  told = λ config steps user part there. told_listings part.resources (run_holds config steps user part there).tree;
}
