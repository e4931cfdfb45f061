-- The bytes are a kind of symbol.
use Rattle.std.specs.Prelude.{◌<◌, bit_xor, refl}
use Rattle.std.proofs.lemmas.Nat.{xor_lt, xor_comm}
use Rattle.std.specs.Int.Bits.{xor_assoc, xor_self}
use Rattle.std.proofs.Common.{lit<}
use Rattle.field.specs.Arithmetic.{gmul}
use Rattle.field.specs.Space.{Space}
use Rattle.field.specs.Products.{gmul_lt, gmul_l, gmul_r, gmul_assoc, gmul_one_l}

pub bytes : Space (λ x. x < 256) 0 bit_xor gmul
bytes = record {
  ok_zero = lit< tt;
  ok_sum = xor_lt 8;
  ok_times = gmul_lt;
  comm = xor_comm;
  assoc = xor_assoc;
  unit = λ x h. refl;
  self = λ x h. xor_self x;
  left = λ c d x. (gmul_l x).xors c d;
  right = λ c x y. (gmul_r c).xors x y;
  twice = gmul_assoc;
  one = gmul_one_l;
}
