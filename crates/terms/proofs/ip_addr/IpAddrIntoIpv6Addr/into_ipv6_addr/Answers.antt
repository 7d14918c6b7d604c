use Rattle.std.proofs.Common.{rules, ◌∙◌, ap, sym}
use Rattle.std.specs.Int.{from_be_bytes, w128}
use Rattle.std.specs.Net.Addr.{ipv4_bits, ipv6_bits, octets_of}
use Rattle.terms.specs.IpAddrs.{address_bits}
use Rattle.terms.proofs.MappedAddresses.{mapped_bits}
use Rattle.terms.proofs.ip_addr.IpAddrIntoIpv6Addr.into_ipv6_addr.Goals as goal

pub returns-in-V4 : goal.returns-in-V4
unfolding ipv4_bits ipv6_bits
returns-in-V4 c =
    ap (λ segments. from_be_bytes w128 (octets_of segments)) c.to_ipv6_mapped.ensures
    ∙ mapped_bits c.in-V4.addr.octets (search rules) (search rules)
    ∙ sym (ap address_bits c.in-V4.is)
