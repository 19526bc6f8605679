-- how names, inodes and the bytes of files stand together
pub mod Fits
-- what functions gave, with what they left
pub mod Given
-- what holds by the definitions alone
pub mod Laws
-- what a lookup found
pub mod Lookups
-- what may be opened or made
pub mod Makes
-- the size of what calls may wait in
pub mod Sizes
-- what contracts see of a store
pub mod Store
pub mod inner
