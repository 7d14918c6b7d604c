use Rattle.definitions.proofs.CallImages.{settled-image}
use Rattle.definitions.proofs.disk_laws.a_sync_leaves_one_image.Goals as goal

pub returns : goal.returns
returns c content image is = settled-image content image is
