use Rattle.definitions.proofs.CallImages.{cut-bytes, cut-remains, overwritten-bytes, settled-remains, write-remains}
use Rattle.definitions.proofs.disk_laws.what_is_read_is_an_image.Goals as goal

pub returns-clause-write : goal.returns-clause-write
returns-clause-write c at bytes content u inside remains are =
    write-remains at bytes content u inside remains (overwritten-bytes at bytes content inside remains.bytes are)

pub returns-clause-cut : goal.returns-clause-cut
returns-clause-cut c len content u inside remains = cut-remains len content u inside remains (cut-bytes len content remains.bytes)

pub returns-clause-sync : goal.returns-clause-sync
returns-clause-sync c content u remains = settled-remains content remains.bytes
