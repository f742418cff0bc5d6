use Rattle.std.proofs.Common.{◌≡◌, arith, length, length-set, ap, sym, subst, ◌+◌, ◌%◌, ◌^◌, ◌<◌}
use Rattle.std.proofs.lemmas.List.{get_or_read, length-map}
use Rattle.temporary_table.specs.Queue.{Queue}
use Rattle.temporary_table.specs.Chains.{since, requests_of, bucket_of}
use Rattle.temporary_table.proofs.Chaining.{chained_more}
use Rattle.temporary_table.proofs.requests.Requests.push.Goals as goal

pub invariant_of-self : goal.invariant_of-self
invariant_of-self c =
    let was = c.self.invariant in
    let room : length (requests_of c.self.inside.queue.items) < c.self.inside.limit = subst (λ (q : Queue). length q.waiting < q.limit) (sym c.self.view_is) c.requires.room in
    let long = length-map c.self.inside.queue.items (λ q. q.request) in
    let within : c.bucket_of-bucket.result < length c.self.inside.newest.items = omega arith in
    let count : c.len.result ≡ length c.self.inside.newest.items = omega arith in
    let its : c.bucket_of-bucket.result ≡ bucket_of (length c.self.inside.newest.items) c.args.request = cc in
    record {
      reserved = omega arith;
      within = omega arith;
      some = omega (arith, length-set c.self.inside.newest.items c.bucket_of-bucket.result ((c.self.inside.pushed + 1) % 2 ^ 64));
      chained = chained_more c.self.inside.pushed c.bucket_of-bucket.result c.self.inside.newest.items c.self.inside.queue.items c.push_back_reserved.new.self.items _ c.push_back_reserved.ensures.items its within (omega arith) (ap (since c.self.inside.pushed) (get_or_read c.self.inside.newest.items c.bucket_of-bucket.result c.index.result.now within c.index.ensures 0)) was.chained;
    }
