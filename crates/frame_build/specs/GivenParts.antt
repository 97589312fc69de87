-- What the types of the builders' arguments give: how long each array is, and that its elements are bytes. Each builder promises
-- it of what it was given, so that what follows from a building has no premise that a caller could not see.
-- Assumes nothing.
use Rattle.std.specs.Prelude.{◌≡◌, List, ℕ, ◌<◌, length}
use Rattle.base.specs.Bytes.{AreBytes}
use Rattle.frame_build.specs.declared.creator.data_frame.DataParts.{DataParts}
use Rattle.frame_build.specs.declared.creator.join.JoinAcceptParts.{JoinAcceptParts}
use Rattle.frame_build.specs.declared.creator.join.JoinRequestParts.{JoinRequestParts}

-- an array of n bytes
pub record ByteArray (n : ℕ) (s : List ℕ) : Type 0 where
  pub long : length s ≡ n
  pub bytes : AreBytes s

pub record DataGiven (d : DataParts) : Type 0 where
  pub address : length d.dev_addr ≡ 4

pub record RequestGiven (j : JoinRequestParts) : Type 0 where
  pub app : length j.app_eui ≡ 8
  pub dev : length j.dev_eui ≡ 8
  pub nonce : length j.dev_nonce ≡ 2

-- a join-accept is enciphered, MIC and all; deciphering gives back what went in where that is bytes
pub record AcceptGiven (k : List ℕ) (j : JoinAcceptParts) : Type 0 where
  pub key : ByteArray 16 k
  pub nonce : ByteArray 3 j.app_nonce
  pub net : ByteArray 3 j.net_id
  pub address : ByteArray 4 j.dev_addr
  pub settings : j.dl_settings < 256
  pub delay : j.rx_delay < 256
