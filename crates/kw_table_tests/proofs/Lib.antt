mod AskedOperations
mod Knowing
