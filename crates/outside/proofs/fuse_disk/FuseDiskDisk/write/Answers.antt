use Rattle.outside.proofs.fuse_disk.FuseDiskDisk.write.Goals as goal

pub returns-clause-torn : goal.returns-clause-torn
returns-clause-torn g c = rw c.in_ok-pass.ensures.disk at c.write.ensures.torn
