use Rattle.qx_machine.proofs.Listings.{listing_told}
use Rattle.qx_machine.proofs.laws.listing_told.Goals as goal

pub returns : goal.returns
returns c = listing_told
