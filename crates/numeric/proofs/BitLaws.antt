-- Laws of the bits of a not-a-number, which the language leaves undefined: `to_bits` is asked only where a float is a number, `from_bits` only for a number's bits.
use Rattle.std.proofs.Common.{◌≡◌, true, T, sym, refl, subst}
use lib.Ieee.{Float, nan, inf, fin, Format, binary32, binary64, div, is_nan, of_bits}

pub the_nan : (x : Float) → is_nan x ≡ true → x ≡ nan
unfolding is_nan
the_nan nan h = refl
the_nan (inf s) h = absurd (subst T (sym h) tt)
the_nan (fin s m e) h = absurd (subst T (sym h) tt)
