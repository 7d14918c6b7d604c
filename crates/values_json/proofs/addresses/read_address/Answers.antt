-- What `parse` reads is what the definition reads.
use Rattle.std.proofs.Common.{List, Some, ap, length, rules, sym, ◌∙◌, ◌≡◌, ℕ}
use Rattle.std.specs.Int.{from_be_bytes, w128}
use Rattle.std.specs.Net.Addr.{ipv6_bits, octets_of}
use Rattle.definitions.specs.Addresses.{mapped}
use Rattle.terms.proofs.MappedAddresses.{mapped_bits}
use Rattle.values_json.proofs.AddressTexts.{group_bits, groups_address, no_address, quad_address, quad_bits}
use Rattle.values_json.proofs.addresses.read_address.Goals as goal

pub returns-in-Ok : goal.returns-in-Ok
unfolding ipv6_bits
returns-in-Ok c =
    let octets = c.in-Ok.address.octets in
    let four : length octets ≡ 4 = search rules in
    let bits =
    c.to_bits.ensures
    ∙ ap (λ (segments : List ℕ). from_be_bytes w128 (octets_of segments)) c.to_ipv6_mapped.ensures
    ∙ mapped_bits octets four (search rules)
    ∙ ap mapped (quad_bits octets four) in
    ap Some bits ∙ sym (quad_address c.args.text.now octets c.in-Ok.ensures.value)

pub returns-in-Ok-parse : goal.returns-in-Ok-parse
unfolding ipv6_bits
returns-in-Ok-parse c =
    let segments = c.in-Ok-parse.address.segments in
    let eight : length segments ≡ 8 = search rules in
    ap Some (c.to_bits-in-Ok-parse.ensures ∙ group_bits segments eight)
    ∙ sym (groups_address c.args.text.now segments (λ octets. c.in_default.ensures.value (record { octets = octets })) c.in-Ok-parse.ensures.value)

pub returns-in-Err : goal.returns-in-Err
returns-in-Err c = sym (no_address c.args.text.now (λ octets. c.in_default.ensures.value (record { octets = octets })) (λ segments. c.in-Err.ensures.value (record { segments = segments })))
