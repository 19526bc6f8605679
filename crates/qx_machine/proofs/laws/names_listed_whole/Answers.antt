use Rattle.qx_machine.proofs.Directories.{names_rise}
use Rattle.qx_machine.proofs.Listings.{listed_end, listed_to_end}
use Rattle.qx_machine.proofs.laws.names_listed_whole.Goals as goal

pub returns : goal.returns
returns c = record {
  rising = λ names directory single. names_rise names directory single;
  whole = λ names directory listings single sized nothing. listed_to_end names directory single sized listings nothing;
  ends = λ names directory listings single sized enough. listed_end names directory single sized listings enough;
}
