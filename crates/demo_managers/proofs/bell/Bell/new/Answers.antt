use Rattle.demo_managers.proofs.PlaceLemmas.{put-there}
use Rattle.demo_managers.proofs.bell.Bell.new.Goals as goal

pub returns-clause-fits : goal.returns-clause-fits
returns-clause-fits c = put-there _ _ c.args.user.0 c.args.inode _ c.requires.user c.requires.inode c.in_ok-add_pipe.ensures.ok c.has_pipe-is_there.ensures.places
