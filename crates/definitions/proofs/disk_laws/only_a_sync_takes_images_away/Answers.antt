use Rattle.std.proofs.Common.{inl, inr, refl}
use Rattle.definitions.specs.Disk.{overwritten}
use Rattle.definitions.proofs.CallImages.{kept_is_partly, cut-images, sync-images, write-images}
use Rattle.definitions.proofs.disk_laws.only_a_sync_takes_images_away.Goals as goal

pub returns-clause-write : goal.returns-clause-write
returns-clause-write c at bytes content u inside remains =
    write-images at bytes content content u u inside remains (kept_is_partly content (overwritten at bytes content) content refl) (inl refl)

pub returns-clause-cut : goal.returns-clause-cut
returns-clause-cut c len content u inside =
    cut-images len content content u u inside (kept_is_partly content _ content refl) (inl refl)

pub returns-clause-sync : goal.returns-clause-sync
returns-clause-sync c content u remains = sync-images content content u _ remains refl (inr refl)
