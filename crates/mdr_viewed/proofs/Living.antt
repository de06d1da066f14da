-- The laws of the living cells of a set stand in mdr_watched, and are handed on.
pub use Rattle.mdr_watched.proofs.Living.{all_living, births_grow, is_living, live_and, living_both, living_born, living_killed, living_put, same_filter}
