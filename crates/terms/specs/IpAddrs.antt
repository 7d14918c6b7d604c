-- Addresses as numbers.
use Rattle.std.specs.Prelude.{ℕ}
use Rattle.std.specs.Net.Addr.{ipv4_bits, ipv6_bits}
use Rattle.std.specs.declared.net.ip_addr.IpAddr.{IpAddr}
use Rattle.std.specs.declared.net.ip_addr.IpAddr.TheVariants.{V4, V6}
use Rattle.definitions.specs.Addresses.{mapped}

-- the 128 bits of an address, of an IPv4 address those of the one that it is mapped to
abbrev pub address_bits : IpAddr → ℕ
address_bits (V4 ip) = mapped (ipv4_bits ip)
address_bits (V6 ip) = ipv6_bits ip
