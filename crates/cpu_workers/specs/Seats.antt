-- The invariant of a worker: its machine does one action a step and has room for one at any time.
-- Its CPU's part agrees with the machine and has the CPU's number, and the CPU's invariant holds.
-- Each buffer opened empty.
pub record IsWorker (Stepwise PartFits NumberIs InOrder Tabled Roomy Opens : Type 0) : Type 0 where
  pub stepwise : Stepwise
  pub coupled : PartFits
  pub number : NumberIs
  pub is : InOrder
  pub tabled : Tabled
  pub room : Roomy
  pub opens : Opens
