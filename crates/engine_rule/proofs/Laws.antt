-- What the theorems of the two machines say, of which the joint one is made.
use Rattle.commit_core.specs.Fill.{FillKeeps}
use Rattle.commit_core.specs.Law.{EachActKeeps as CommitsKeep, EachActLeaves as CommitsLeave, OpensSound, SoundIsSerial}
use Rattle.drop_core.specs.Law.{EachActKeeps as PagesKeep, EachActLeaves as PagesLeave, EachActLeavesHeld as PagesHold, EachActLeavesMade as PagesMade, StartsSound as PagesStart, HeldIsNotGiven, MadeIsOwn, SwingsMoveDown, ChainsMoveDown, SwingsTakeAway, SplitsComeOfTwins}

pub record Laws : Type 0 where
  pub commits_keep : CommitsKeep
  pub commits_leave : CommitsLeave
  pub commits_open : OpensSound
  pub serial : SoundIsSerial
  pub fills : FillKeeps
  pub pages_keep : PagesKeep
  pub pages_leave : PagesLeave
  pub pages_hold : PagesHold
  pub pages_made : PagesMade
  pub pages_start : PagesStart
  pub held : HeldIsNotGiven
  pub made : MadeIsOwn
  pub down : SwingsMoveDown
  pub chains : ChainsMoveDown
  pub away : SwingsTakeAway
  pub splits : SplitsComeOfTwins
