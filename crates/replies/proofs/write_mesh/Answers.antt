-- `replies::write_mesh` meets its contract, by what was asked for. Assumes nothing.
use Rattle.replies.proofs.write_mesh.Goals as goal

pub returns-in-Listing : goal.returns-in-Listing
returns-in-Listing c = rw c.in-Listing.is c.write_listing.ensures

pub returns-in-File : goal.returns-in-File
returns-in-File c = rw c.in-File.is c.write_file.ensures
