use Rattle.std.proofs.Common.{ap, arith, length, ◌++◌, ◌≡◌, ◌∙◌}
use Rattle.std.proofs.lemmas.Result.{IfOk-weaker}
use Rattle.definitions.specs.NumberCodes.{u64_bytes}
use Rattle.segment_definitions.specs.Segments.{segment_bytes}
use Rattle.segment.proofs.BehindPrefixes.{sections_behind}
use Rattle.segment.specs.Written.{sections_of}
use Rattle.segment.proofs.section_list.Sections.put_behind.Goals as goal

pub returns-clause-whole : goal.returns-clause-whole
returns-clause-whole c =
    let own = sections_of c.args.self in
    let fifth = c.put_section-4.new.out.items in
    let sixth = c.put_u64.new.out.items in
    let count = c.len.ensures in
    let many = c.args.self.store.ok in
    let long : c.len.result ≡ length own.store = omega (arith, count, many) in
    let length_put : sixth ≡ fifth ++ u64_bytes (length own.store) = c.in_ok-put_u64.ensures.ok ∙ ap (λ n. fifth ++ u64_bytes n) long in
    IfOk-weaker c.joined.result (λ bytes. bytes.items ≡ sixth ++ own.store) (λ bytes. bytes.items ≡ c.args.prefix.items ++ segment_bytes c.args.num_docs own) (λ bytes whole. sections_behind c.args.num_docs own c.args.prefix.items c.put_u32.new.out.items c.put_section.new.out.items c.put_section-2.new.out.items c.put_section-3.new.out.items fifth sixth bytes.items c.in_ok-put_u32.ensures.ok c.in_ok-put_section.ensures c.in_ok-put_section-2.ensures c.in_ok-put_section-3.ensures c.in_ok-put_section-4.ensures length_put whole) c.joined.ensures.whole
