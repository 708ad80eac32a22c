-- What a run does to the output besides what it prints.
use Rattle.std.specs.Prelude.{◌≡◌, ℕ, ◌+◌, ◌*◌, ◌≤◌, length, IsOk, Result}
use Rattle.lines.specs.declared.report.Output.{Output as Lent}
use Rattle.lines.specs.declared.report.Short.{Short}

-- A run over a text of at most this many bytes writes into the bytes that were lent, at most 64 for each byte of the text. With room for seven for each, and a last line's more, no line fails to fit.
pub record Fills (most : ℕ) (before after : Lent) (r : Result (Unit {0}) Short) : Type 0 where
  pub lender : after.bytes.ghost_name ≡ before.bytes.ghost_name
  pub few : after.written ≤ before.written + 64 * most
  pub whole : before.written + 7 * most + 24 ≤ length before.bytes.now → IsOk r
