use Rattle.std.proofs.Common.{◌<◌, ◌≡◌, arith, rules, subst, ℕ}
use Rattle.common.specs.Calls.{IsFilled}
use Rattle.common.specs.MemoryDevices.{content_of, unsynced_of}
use Rattle.common.proofs.CrashImages.{bytes_more, filled_is_image, filled_more}
use Rattle.common.proofs.memory_device.MemoryDevice.crash.Goals as goal

pub loop-i-preserved : goal.loop-i-preserved
loop-i-preserved c =
    let content = content_of c.args.self.now in
    let unsynced = unsynced_of c.args.self.now in
    let byte = c.crashed_byte.result in
    let small : byte < 256 = search rules in
    record {
      filled = filled_more content unsynced c.args.fill c.loop-i.i c.loop-i.image.items c.push.new.self.items byte c.loop-i.invariant.filled c.in_ok-push.ensures.items c.crashed_byte.ensures.filled c.crashed_byte.ensures.kept;
      bytes = bytes_more c.loop-i.image.items c.push.new.self.items byte c.in_ok-push.ensures.items small c.loop-i.invariant.bytes;
    }

pub returns-clause-image : goal.returns-clause-image
returns-clause-image c =
    let content = content_of c.args.self.now in
    let unsynced = unsynced_of c.args.self.now in
    let items = c.loop-i.image.items in
    let all : c.loop-i.i ≡ c.args.len = omega arith in
    let filled = subst (λ (n : ℕ). IsFilled content unsynced c.args.fill n items) all c.loop-i.invariant.filled in
    filled_is_image content unsynced c.args.fill c.args.len items c.requires.no_shorter c.requires.no_longer c.loop-i.invariant.bytes filled
