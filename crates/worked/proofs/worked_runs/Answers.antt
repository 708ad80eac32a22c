-- The statement, run by run.
use Rattle.std.proofs.Common.{refl, arith, lit≤}
use Rattle.worked.proofs.Computed.{last_place_run, waiting_run, in_order_run, taken_over_run, within_reach_run, out_of_reach_run, shared_bit_run}
use Rattle.worked.proofs.FullRing.{full_ring_run}
use Rattle.worked.proofs.Limits.{refused, made}
use Rattle.worked.proofs.worked_runs.Goals as goal

pub returns : goal.returns
returns c = record {
  numbers = record { ring_length = refl; places_spent = refl; ring_full = refl; must_wait = λ place. refl };
  ring_limits = record { one = refused 1 100 (λ b. omega arith); two = made 2 100 (record { least = lit≤ tt; most = lit≤ tt }) (record { least = lit≤ tt; most = lit≤ tt }); most = made 1024 100 (record { least = lit≤ tt; most = lit≤ tt }) (record { least = lit≤ tt; most = lit≤ tt }); more = refused 1025 100 (λ b. omega arith) };
  last_place_reached = last_place_run;
  places_and_waiting = waiting_run;
  strict_finishing = in_order_run;
  full_ring = full_ring_run;
  slot_taken_over = taken_over_run;
  within_reach = within_reach_run;
  out_of_reach = out_of_reach_run;
  shared_bit = shared_bit_run;
}
