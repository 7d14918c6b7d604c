-- The term of the address that was read.
use Rattle.std.proofs.Common.{Some, ap, rules, ◌<◌, ◌^◌, ◌∙◌}
use Rattle.std.specs.Int.{to_be_bytes, w128}
use Rattle.definitions.specs.Schema.{ip_addr_kind}
use Rattle.definitions.specs.Terms.{term_bytes}
use Rattle.serde_json.specs.View.{view}
use Rattle.settings.proofs.AddressBits.{bits_of}
use Rattle.settings.proofs.ValueTerms.{address_term}
use Rattle.settings.proofs.json_terms.ip_addr_term.Goals as goal

pub returns : goal.returns
returns c =
    let bits = c.in-Some-read_address.bits in
    let fits : bits < 2 ^ 128 = search rules in
    let bytes = ap (λ n. term_bytes c.args.field ip_addr_kind (to_be_bytes w128 n)) (bits_of c.from_bits-address.result bits c.from_bits-address.ensures fits) in
    ap Some (c.in_ok-from_field_ip_addr.ensures ∙ bytes) ∙ address_term c.args.field (view c.args.value.now) c.in-Some.text.now bits c.in-Some.ensures c.in-Some-read_address.ensures
