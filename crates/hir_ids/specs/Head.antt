-- The first fifteen bytes of a text and its length up to 16 as two numbers, by which most texts are told apart.
use Rattle.std.specs.Prelude.{ℕ, zero, suc, ◌+◌, ◌*◌, ◌<◌, List, [], ◌∷◌, get_or, drop, length, min}

-- a number, and behind it the digits of base 256 that so many first bytes are, with zeros behind the end
abbrev pub head_from : ℕ → ℕ → List ℕ → ℕ
head_from head zero bytes = head
head_from head (suc n) [] = head_from (head * 256) n []
head_from head (suc n) (byte ∷ bytes) = head_from (head * 256 + byte) n bytes

unfoldable pub head_of : List ℕ → ℕ
head_of bytes = head_from 0 8 bytes

-- the next seven bytes, and behind them the length, 16 where it is greater
unfoldable pub rest_of : List ℕ → ℕ
rest_of bytes = head_from 0 7 (drop 8 bytes) * 256 + min (length bytes) 16

-- each is a byte
unfoldable pub AreBytes : List ℕ → Type 0
AreBytes bytes = (i : ℕ) → get_or bytes i 0 < 256
