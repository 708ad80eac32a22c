-- Most runs are shown by computation: the elements of the log arrays are variables, and the played steps give the stated answers.
use Rattle.std.proofs.Common.{ℕ, refl, lit<, lit≤}
use Rattle.worked.specs.Runs.{ForcedRun}
use Rattle.worked.specs.Statement.{last_place_events, waiting, in_order_events, taken_over_events, within_reach_events, out_of_reach_events, shared_bit_events}
use Rattle.worked.proofs.Fresh.{forced_from}
use Rattle.worked.proofs.Limits.{run_made}
use Rattle.worked.proofs.Played.{computing}

-- With last place 1, the second writer is refused and the empty commit is not.
pub last_place_run : (u v : ℕ) → ForcedRun 1 (last_place_events u v)
unfolding computing
last_place_run u v = record {
  starts = run_made 1 (record { least = lit≤ tt; most = lit≤ tt });
  forced = forced_from 1 (last_place_events u v) (λ a₀ a₁ a₂ a₃ a₄ a₅ a₆ a₇ c₀ c₁ c₂ c₃ c₄ c₅ c₆ c₇. (refl, (refl, (refl, (refl, (refl, (refl, (refl, (refl, tt)))))))));
}

-- Places, numbers compared, and the wait for the older writer of the same cell.
pub waiting_run : (u v w : ℕ) → ForcedRun 100 (waiting u v w)
unfolding computing
waiting_run u v w = record {
  starts = run_made 100 (record { least = lit≤ tt; most = lit≤ tt });
  forced = forced_from 100 (waiting u v w) (λ a₀ a₁ a₂ a₃ a₄ a₅ a₆ a₇ c₀ c₁ c₂ c₃ c₄ c₅ c₆ c₇. (refl, (refl, (refl, (refl, (refl, (refl, (refl, (refl, (refl, (refl, tt)))))))))));
}

-- The writer of another cell writes it, and waits to finish.
pub in_order_run : (u v w : ℕ) → ForcedRun 100 (in_order_events u v w)
unfolding computing
in_order_run u v w = record {
  starts = run_made 100 (record { least = lit≤ tt; most = lit≤ tt });
  forced = forced_from 100 (in_order_events u v w) (λ a₀ a₁ a₂ a₃ a₄ a₅ a₆ a₇ c₀ c₁ c₂ c₃ c₄ c₅ c₆ c₇. (refl, (refl, (refl, (refl, (refl, (refl, (refl, (refl, (refl, (refl, (refl, (refl, tt)))))))))))));
}

-- The write-back goes on past the slot that was taken over.
pub taken_over_run : (u v w x y : ℕ) → ForcedRun 100 (taken_over_events u v w x y)
unfolding computing
taken_over_run u v w x y = record {
  starts = run_made 100 (record { least = lit≤ tt; most = lit≤ tt });
  forced = forced_from 100 (taken_over_events u v w x y) (λ a₀ a₁ a₂ a₃ a₄ a₅ a₆ a₇ c₀ c₁ c₂ c₃ c₄ c₅ c₆ c₇. (refl, (refl, (refl, (refl, (refl, (refl, (refl, (refl, (refl, (refl, (refl, (refl, (refl, (refl, (refl, (refl, (refl, (refl, (refl, (record { entry = _; there = record { within = lit< tt; is = refl }; stamp = refl }, (record { within = lit< tt; is = refl }, (refl, (record { within = lit< tt; is = refl }, (refl, tt)))))))))))))))))))))))));
}

-- Four places back are on the ring.
pub within_reach_run : (u v w x : ℕ) → ForcedRun 100 (within_reach_events u v w x)
unfolding computing
within_reach_run u v w x = record {
  starts = run_made 100 (record { least = lit≤ tt; most = lit≤ tt });
  forced = forced_from 100 (within_reach_events u v w x) (λ a₀ a₁ a₂ a₃ a₄ a₅ a₆ a₇ c₀ c₁ c₂ c₃ c₄ c₅ c₆ c₇. (refl, (refl, (refl, (refl, (refl, (refl, (refl, (refl, (refl, (refl, (refl, (refl, (refl, (refl, (refl, (refl, (refl, (refl, (refl, (refl, (refl, (refl, tt)))))))))))))))))))))));
}

-- Five are not.
pub out_of_reach_run : (u v w x y : ℕ) → ForcedRun 100 (out_of_reach_events u v w x y)
unfolding computing
out_of_reach_run u v w x y = record {
  starts = run_made 100 (record { least = lit≤ tt; most = lit≤ tt });
  forced = forced_from 100 (out_of_reach_events u v w x y) (λ a₀ a₁ a₂ a₃ a₄ a₅ a₆ a₇ c₀ c₁ c₂ c₃ c₄ c₅ c₆ c₇. (refl, (refl, (refl, (refl, (refl, (refl, (refl, (refl, (refl, (refl, (refl, (refl, (refl, (refl, (refl, (refl, (refl, (refl, (refl, (refl, (refl, (refl, (refl, (refl, (refl, (refl, (refl, tt))))))))))))))))))))))))))));
}

-- Cells 0 and 32 share a bit.
pub shared_bit_run : (u : ℕ) → ForcedRun 100 (shared_bit_events u)
unfolding computing
shared_bit_run u = record {
  starts = run_made 100 (record { least = lit≤ tt; most = lit≤ tt });
  forced = forced_from 100 (shared_bit_events u) (λ a₀ a₁ a₂ a₃ a₄ a₅ a₆ a₇ c₀ c₁ c₂ c₃ c₄ c₅ c₆ c₇. (refl, (refl, (refl, (refl, (refl, (refl, tt)))))));
}
