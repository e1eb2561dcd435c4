-- The state of a scan over a text, as the code represents it.
use Rattle.std.specs.Prelude.{◌≡◌, ◌+◌, ◌-◌, ◌<◌, ◌≤◌, ◌^◌, ℕ, drop, length, take}
use Rattle.ly_base.specs.Lexed.{after_line, Place}
use Rattle.ly_base.specs.declared.place.Place.TheInside.{Inside}

-- the number of scanned bytes that weren't discarded
abbrev pub passed : Inside → ℕ
passed p = length p.text.now - length p.rest.now

abbrev pub spot_of : Inside → Place
spot_of p = record {
  line = after_line p.line (take (passed p) p.text.now);
  condition = p.condition;
  at = p.given_up + passed p;
  rest = p.rest.now;
}

-- the remaining bytes are the end of the text, and the offset of its end fits into the counter
pub record EndsText (p : Inside) : Type 0 where
  pub within : length p.rest.now ≤ length p.text.now
  pub end : drop (passed p) p.text.now ≡ p.rest.now
  pub countable : p.given_up + length p.text.now < 2 ^ 64
