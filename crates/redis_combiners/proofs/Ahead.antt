-- What was found so far, before what is still to find in the rest of the replies.
pub use Rattle.resp_core.proofs.SoFar.{before, before-more}
