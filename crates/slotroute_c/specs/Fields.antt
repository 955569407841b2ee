-- What a call changes in a caller's `told`: the fields that its code names. The others stay.
use Rattle.std.specs.Prelude.{ℕ}
use Rattle.slotroute_c.specs.declared.told.Told.{Told}

abbrev pub with_sizes : ℕ → ℕ → Told → Told
with_sizes parts bytes told = record {
  parts = parts;
  bytes = bytes;
  reply = told.reply;
  at = told.at;
}

abbrev pub with_bytes : ℕ → Told → Told
with_bytes bytes told = with_sizes told.parts bytes told

abbrev pub with_reply_number : ℕ → Told → Told
with_reply_number reply told = record {
  parts = told.parts;
  bytes = told.bytes;
  reply = reply;
  at = told.at;
}

abbrev pub with_at : ℕ → Told → Told
with_at at told = record {
  parts = told.parts;
  bytes = told.bytes;
  reply = told.reply;
  at = at;
}
