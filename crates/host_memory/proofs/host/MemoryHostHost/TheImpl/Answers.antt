use Rattle.std.proofs.Common.{refl}
use Rattle.host_memory.specs.ReadsNow.{reads_now}
use Rattle.host_memory.specs.Turns.{replayed}
use Rattle.host_memory.proofs.host.MemoryHostHost.TheImpl.Goals as goal

-- where no image has the file, the disk as it reads doesn't have it
pub create-asks : goal.create-asks
create-asks c =
    let host = c.args.self.now in
    record {
      name = c.requires.name;
      absent = c.requires.absent refl (replayed host.initial host.turns) (reads_now host.initial host.turns);
    }
